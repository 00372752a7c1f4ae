-- What a run is asked: the tables. Whatever else a run may be asked one day stands beside them. Read it after Coerce.
use Rattle.tables.specs.Tables.{Tables}

pub record Request : Type 0 where
  pub tables : Tables
