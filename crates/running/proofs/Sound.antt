-- In lawful tables a walk has all that it rests on, whichever rows it comes to: what is there has its parts there, and what is not stands past the
-- table's end, where words are 0. Assumes nothing.
use mathlib.Core.Path.{◌≡◌}
use mathlib.Core.Bool.{true, false, not, ◌&&◌}
use mathlib.Core.List.{List}
use Prim.Native.Nat.{ℕ, ◌+◌, ◌*◌, ◌≤◌, ◌<◌}
use native.Mathlib.Decide.{dec_le}
use native.Mathlib.Omega.{arith}
use lib.Dec.{eqb}
use lib.ListN.{length, get_or-eq_default}
use borrow.Author.Tests.{leb-true}
use Rattle.rows.specs.Layout.{type_width, field_width, selection_width, answer_width}
use Rattle.rows.specs.Limits.{most_types, most_fields, most_selections, most_answers}
use Rattle.rows.specs.Rows.{rows_of, cell}
use Rattle.rows.specs.Schema.{type_at, field_at}
use Rattle.rows.specs.Document.{field_selection, selection_at}
use Rattle.rows.specs.Answers.{answer_at, answer_name}
use Rattle.rows.specs.declared.answers.Answer.{Answer}
use Rattle.rows.specs.declared.answers.Answer.TheVariants as answer
use Rattle.rows.proofs.Every.{and_left, and_right}
use Rattle.rules.specs.Rows.{is_row, within}
use Rattle.rules.specs.Schema.{object_kind, argument_lawful}
use Rattle.rules.specs.Document.{condition_lawful, field_selection_lawful, what_lawful}
use Rattle.rules.specs.Answers.{answer_lawful}
use Rattle.tables.specs.Tables.{Tables, name_count, ref_count, type_count, field_count, argument_count, set_count, selection_count, given_count, node_count, literal_count, answer_count}
use Rattle.tables.specs.Lawful.{lawful}
use Rattle.tables.proofs.Facts.{whole, at_most, few_types, types_counted, fields_counted, few_arguments, selections_counted, answers_counted, few_answers, field_row_lem, selection_row_lem, answer_row_lem}
use Rattle.lookup.proofs.Members.{listed}
use Rattle.values.proofs.Lawful.{parted}
use Rattle.input_coercion.proofs.Lawful.{coercible, valued}
use Rattle.echoing.specs.Source.{ArgumentsDiffer}
use Rattle.echoing.proofs.Lawful.{arguments_differ_lem}
use Rattle.collecting.specs.Collecting.{FieldRow}
use Rattle.collecting.proofs.Lawful.{collectable}
use Rattle.planning.proofs.Lawful.{fitting}
use Rattle.resolving.specs.Sound.{asking, Numbered, Leads, Answerable}
use Rattle.execution.specs.Walk.{Sound}

past : (t : List ℕ) (width row column : ℕ) → length t ≤ row * width → cell t width row column ≡ 0
unfolding cell
past t width row column l = get_or-eq_default t 0 {n = row * width + column} (omega arith)

-- an answer that obeys the rule on answers
leads_there : (names nodes count : ℕ) (a : Answer) → answer_lawful names nodes count a ≡ true → count ≤ most_answers → Leads a
leads_there names nodes count answer.Skip e l = tt
leads_there names nodes count answer.Error e l = tt
leads_there names nodes count (answer.Leaf node) e l = tt
leads_there names nodes count (answer.List rows) e l = omega (arith, leb-true (rows.first + rows.count) count e)
leads_there names nodes count (answer.Object name rows) e l =
    omega (arith, leb-true (rows.first + rows.count) count (and_right (is_row names name) (within count rows) e))
leads_there names nodes count (answer.Echo name) e l = tt
leads_there names nodes count answer.Unknown e l = tt

module _ (T : Tables) (h : lawful T ≡ true) where
  -- ---- where the tables end

  types_end : (row : ℕ) → type_count T ≤ row → length T.types ≤ row * type_width
  unfolding rows_of
  types_end row l = omega (arith, whole type_width 0 most_types T.types (types_counted T h), at_most type_width 0 most_types T.types (types_counted T h))

  fields_end : (row : ℕ) → field_count T ≤ row → length T.fields ≤ row * field_width
  unfolding rows_of
  fields_end row l =
      omega (arith, whole field_width 0 most_fields T.fields (fields_counted T h), at_most field_width 0 most_fields T.fields (fields_counted T h))

  selections_end : (row : ℕ) → selection_count T ≤ row → length T.selections ≤ row * selection_width
  unfolding rows_of
  selections_end row l =
      omega (
        arith,
        whole selection_width 0 most_selections T.selections (selections_counted T h),
        at_most selection_width 0 most_selections T.selections (selections_counted T h),
      )

  answers_end : (row : ℕ) → answer_count T ≤ row → length T.answers ≤ row * answer_width
  unfolding rows_of
  answers_end row l =
      omega (arith, whole answer_width 1 most_answers T.answers (answers_counted T h), at_most answer_width 1 most_answers T.answers (answers_counted T h))

  -- ---- object types

  objects : (type : ℕ) → object_kind (type_at T.types type).kind ≡ true → type < most_types
  unfolding type_at
  objects type e = go (dec_le (type_count T) type)
    where
      go : Dec (type_count T ≤ type) → type < most_types
      go (yes l) =
          let z : false ≡ true = rw (past T.types type_width type 1 (types_end type l)) at e in
          absurd (let n : ◌≡◌ {A = ℕ} 0 1 = cc in omega arith)
      go (no l) = omega (arith, few_types T h)

  -- ---- the arguments of a field, as they are defined

  no_arguments : (f : ℕ) → field_count T ≤ f → (field_at T.fields f).arguments ≡ record { first = 0; count = 0 }
  unfolding field_at
  no_arguments f l = rw (past T.fields field_width f 4 (fields_end f l), past T.fields field_width f 5 (fields_end f l))

  defined : (f : ℕ) → Numbered (field_at T.fields f).arguments
  defined f = go (dec_le (field_count T) f)
    where
      go : Dec (field_count T ≤ f) → Numbered (field_at T.fields f).arguments
      go (yes l) = rw (no_arguments f l) (omega arith)
      go (no l) =
          let d = field_at T.fields f in
          let lawfully = argument_lawful (name_count T) (ref_count T) (literal_count T) d.name d.ty d.default in
          let w = and_right lawfully (within (argument_count T) d.arguments)
          (and_right (not (eqb d.name 0)) (lawfully && within (argument_count T) d.arguments) (field_row_lem T h f (omega arith))) in
          omega (arith, leb-true (d.arguments.first + d.arguments.count) (argument_count T) w, few_arguments T h)

  differ : (f : ℕ) → ArgumentsDiffer T.arguments (field_at T.fields f).arguments
  differ f = go (dec_le (field_count T) f)
    where
      go : Dec (field_count T ≤ f) → ArgumentsDiffer T.arguments (field_at T.fields f).arguments
      go (yes l) = rw (no_arguments f l) (record { differ = λ a b m n o e. omega arith })
      go (no l) = arguments_differ_lem T h f (omega arith)

  -- ---- the arguments of a field, as they are written

  written_there : (row : ℕ) → FieldRow T.selections row → row < selection_count T → Numbered (field_selection T.selections row).given
  unfolding rows_of
  written_there row f l =
      let s = field_selection T.selections row in
      let n = selection_at T.selections row in
      let what = and_right (condition_lawful (name_count T) n.skip && condition_lawful (name_count T) n.include)
      (what_lawful (name_count T) (ref_count T) (set_count T) (given_count T) n.what) (selection_row_lem T h row l) in
      let is : field_selection_lawful (name_count T) (ref_count T) (set_count T) (given_count T) s ≡ true = rw f.is at what in
      let named = is_row (name_count T) s.name && is_row (name_count T) s.key in
      let typed = within (given_count T) s.given && is_row (ref_count T) s.ty in
      let some = and_right named typed (and_left (named && typed) (is_row (set_count T) s.set) is) in
      let w = leb-true (s.given.first + s.given.count) (given_count T)
      (and_left (within (given_count T) s.given) (is_row (ref_count T) s.ty) some) in
      omega arith

  written_past : (row : ℕ) → selection_count T ≤ row → Numbered (field_selection T.selections row).given
  unfolding field_selection
  written_past row l =
      rw (past T.selections selection_width row 6 (selections_end row l), past T.selections selection_width row 7 (selections_end row l)) (omega arith)

  written : (row : ℕ) → FieldRow T.selections row → Numbered (field_selection T.selections row).given
  written row f = go (dec_le (selection_count T) row)
    where
      go : Dec (selection_count T ≤ row) → Numbered (field_selection T.selections row).given
      go (yes l) = written_past row l
      go (no l) = written_there row f (omega arith)

  -- ---- answers

  no_answer : (row : ℕ) → answer_count T ≤ row → answer_at T.answers row ≡ answer.Skip
  unfolding answer_at
  no_answer row l = rw (past T.answers answer_width row 0 (answers_end row l))

  leads : (row : ℕ) → Leads (answer_at T.answers row)
  leads row = go (dec_le (answer_count T) row)
    where
      go : Dec (answer_count T ≤ row) → Leads (answer_at T.answers row)
      go (yes l) = rw (no_answer row l) tt
      go (no l) =
          let a = answer_at T.answers row in
          leads_there (name_count T) (node_count T) (answer_count T) a
          (and_right (is_row (name_count T) (answer_name T.answers row)) (answer_lawful (name_count T) (node_count T) (answer_count T) a)
          (answer_row_lem T h row (omega arith))) (few_answers T h)

  -- ---- all of it

  answerable : Answerable T.types T.fields T.arguments T.selections T.nodes T.literals T.variables T.answers
  answerable = record {
    listed = listed T h;
    coercible = coercible T h;
    parted = parted T h;
    valued = valued T h;
    defined = defined;
    differ = differ;
    written = written;
    keyed = (fitting T h).keyed;
    leads = leads;
    objects = objects;
  }

  pub sound_of : Sound
      (asking T.pool T.names T.refs T.types T.members T.fields T.arguments T.sets T.selections T.given T.fragments
      T.nodes T.literals T.variables T.answers)
  sound_of = record { answerable = answerable; fitting = fitting T h; collectable = collectable T h }
