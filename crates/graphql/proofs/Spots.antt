-- What is said of a value that stands at a place: each null of it that no resolver answered has its error record. It is so of a list and of
-- an object if it is so of their parts, since the path of a part is that of the whole and one segment more, and because a list of which no
-- item is skipped has its items at the positions that their paths name. Assumes nothing.
use mathlib.Core.Path.{◌≡◌, refl, sym, subst, ap, ◌∙◌}
use mathlib.Core.List.{List, [], ◌∷◌, ◌++◌, map, append_assoc, append-nil, Mem, mem-cons_self, mem-filter_map, Subset}
use Prim.Native.Nat.{ℕ, suc}
use Rattle.rows.specs.Names.{name_text}
use Rattle.graphql.specs.Run.{Segment, name, index, Path, ErrorRecord, err, Log}
use Rattle.graphql.specs.Json.{Json}
use Rattle.graphql.specs.Data.{Data, nulled, leaf, list, object, Val, absent, val, entries, fields}
use Rattle.graphql.specs.Collect.{Group}
use Rattle.graphql.specs.Request.{Request}
use Rattle.graphql.specs.Complete.{numbered}
use Rattle.graphql.specs.Report.{record_of, records_of}
use Rattle.graphql.specs.Demand3.{NoneSkipped, under, position, Spot, EntryAt, FieldAt, this, later, NullAt, itself, in_list, in_object, spot_of_path, Explained}
use Rattle.graphql.proofs.Meets.{Mono, Each}

module _ (Q : Request) where
  -- ---- Records at a place or below

  -- the bytes of a name
  abbrev pub bytes : ℕ → List ℕ
  bytes n = name_text Q.tables.pool Q.tables.names n

  path_append : (p p' : Path) → spot_of_path Q (p ++ p') ≡ spot_of_path Q p ++ spot_of_path Q p'
  unfolding spot_of_path
  path_append [] p' = refl
  path_append (name n ∷ p) p' = ap (λ (q : Spot). under (bytes n) ∷ q) (path_append p p')
  path_append (index i ∷ p) p' = ap (λ (q : Spot). position i ∷ q) (path_append p p')

  -- An event that is an error record at the place or below it.
  pub record Hit (q : Spot) (w : Log) : Type 0 where
    pub by : ErrorRecord
    pub below : Spot
    pub logged : Mem (err by) w
    pub prefix : spot_of_path Q by.path ≡ q ++ below

  pub hit_more : (q : Spot) → Mono (Hit q)
  hit_more q u w s h = record { by = h.by; below = h.below; logged = s _ h.logged; prefix = h.prefix }

  pub hit_here : (r : ErrorRecord) → Hit (spot_of_path Q r.path) (err r ∷ [])
  hit_here r = record { by = r; below = []; logged = mem-cons_self; prefix = sym (append-nil (spot_of_path Q r.path)) }

  pub hit_up : (p : Path) (s : Segment) (w : Log) → Hit (spot_of_path Q (p ++ (s ∷ []))) w → Hit (spot_of_path Q p) w
  hit_up p s w h = record {
    by = h.by;
    below = spot_of_path Q (s ∷ []) ++ h.below;
    logged = h.logged;
    prefix = h.prefix ∙ (ap (λ (q : Spot). q ++ h.below) (path_append p (s ∷ [])) ∙ append_assoc (spot_of_path Q p) (spot_of_path Q (s ∷ [])) h.below);
  }

  pub hit_explained : (q : Spot) (w : Log) → Hit q w → Explained Q q w
  unfolding records_of record_of
  hit_explained q w h = record {
    by = h.by;
    below = h.below;
    written = (mem-filter_map record_of w).1 ∣ (err h.by, h.logged, refl) ∣₁;
    prefix = h.prefix;
  }

  -- ---- Values at a place

  -- Each null of `d`, which stands at `q`, that no resolver answered has its record.
  pub record Covered (q : Spot) (d : Data) (w : Log) : Type 0 where
    pub hit : (r : Spot) → NullAt d r → Hit (q ++ r) w

  covered_more : (q : Spot) (d : Data) → Mono (Covered q d)
  covered_more q d u w s h = record { hit = λ r x. hit_more (q ++ r) u w s (h.hit r x) }

  leaf_hit : (q : Spot) (j : Json) (w : Log) (r : Spot) → NullAt (leaf j) r → Hit (q ++ r) w
  leaf_hit q j w r x = elim x [ ]

  pub covered_leaf : (q : Spot) (j : Json) (w : Log) → Covered q (leaf j) w
  covered_leaf q j w = record { hit = leaf_hit q j w }

  null_hit : (q : Spot) (w : Log) → Hit q w → (r : Spot) → NullAt nulled r → Hit (q ++ r) w
  null_hit q w h r itself = rw append-nil h

  pub covered_null : (q : Spot) (w : Log) → Hit q w → Covered q nulled w
  covered_null q w h = record { hit = null_hit q w h }

  -- A field's value, which may be left out.
  abbrev pub FieldHere : Spot → Val → Log → Type 0
  FieldHere q absent w = Unit
  FieldHere q (val d) w = NoneSkipped w → Covered q d w

  -- An item's value, which is left out only if it is skipped.
  abbrev pub PresentHere : Spot → Val → Log → Type 0
  PresentHere q absent w = NoneSkipped w → ⊥
  PresentHere q (val d) w = NoneSkipped w → Covered q d w

  -- An object's.
  abbrev pub DataHere : Spot → Data → Log → Type 0
  DataHere q d w = NoneSkipped w → Covered q d w

  none_less : (u w : Log) → Subset u w → NoneSkipped w → NoneSkipped u
  none_less u w s h = record { none_at = λ p m. h.none_at p (s _ m) }

  pub data_more : (q : Spot) (d : Data) → Mono (DataHere q d)
  data_more q d u w s h = λ k. covered_more q d u w s (h (none_less u w s k))

  pub field_more : (q : Spot) (v : Val) → Mono (FieldHere q v)
  field_more q absent u w s h = tt
  field_more q (val d) u w s h = data_more q d u w s h

  pub present_more : (q : Spot) (v : Val) → Mono (PresentHere q v)
  present_more q absent u w s h = λ k. h (none_less u w s k)
  present_more q (val d) u w s h = data_more q d u w s h

  pub present_field : (q : Spot) (v : Val) (w : Log) → PresentHere q v w → FieldHere q v w
  present_field q absent w h = tt
  present_field q (val d) w h = h

  -- the place of a part is that of the whole and one step more
  under_place : (p : Path) (n : ℕ) (r : Spot) → spot_of_path Q (p ++ (name n ∷ [])) ++ r ≡ spot_of_path Q p ++ (under (bytes n) ∷ r)
  unfolding spot_of_path
  under_place p n r = ap (λ (q : Spot). q ++ r) (path_append p (name n ∷ [])) ∙ append_assoc (spot_of_path Q p) (under (bytes n) ∷ []) r

  at_place : (p : Path) (i : ℕ) (r : Spot) → spot_of_path Q (p ++ (index i ∷ [])) ++ r ≡ spot_of_path Q p ++ (position i ∷ r)
  unfolding spot_of_path
  at_place p i r = ap (λ (q : Spot). q ++ r) (path_append p (index i ∷ [])) ∙ append_assoc (spot_of_path Q p) (position i ∷ []) r

  -- what is said of a group's value, and of an item's, in what stands at `p`
  abbrev pub InGroup : Path → Group → Val → Log → Type 0
  InGroup p g = FieldHere (spot_of_path Q (p ++ (name g.key ∷ [])))

  abbrev pub InList : Path → ℕ × ℕ → Val → Log → Type 0
  InList p ia = PresentHere (spot_of_path Q (p ++ (index ia.0 ∷ [])))

  abbrev pub keys : List Group → List (List ℕ)
  keys gs = map (λ (g : Group). bytes g.key) gs

  field_hit : (p : Path) (gs : List Group) (vs : List Val) (w : Log) → NoneSkipped w → Each (InGroup p) gs vs w
      → {k : List ℕ} {d : Data} → FieldAt (fields (keys gs) vs) k d → (r : Spot) → NullAt d r → Hit (spot_of_path Q p ++ (under k ∷ r)) w
  unfolding fields
  field_hit p [] vs w n h x r s = elim x [ ]
  field_hit p (g ∷ gs) [] w n h x r s = elim x [ ]
  field_hit p (g ∷ gs) (absent ∷ vs) w n h x r s = field_hit p gs vs w n h.1 x r s
  field_hit p (g ∷ gs) (val d ∷ vs) w n h this r s = subst (λ (q : Spot). Hit q w) (under_place p g.key r) ((h.0 n).hit r s)
  field_hit p (g ∷ gs) (val d ∷ vs) w n h (later x) r s = field_hit p gs vs w n h.1 x r s

  entry_hit : (p : Path) (i : ℕ) (rows : List ℕ) (vs : List Val) (w : Log) → NoneSkipped w → Each (InList p) (numbered i rows) vs w
      → {k : ℕ} {d : Data} → EntryAt i (entries vs) k d → (r : Spot) → NullAt d r → Hit (spot_of_path Q p ++ (position k ∷ r)) w
  unfolding entries numbered
  entry_hit p i [] [] w n h x r s = elim x [ ]
  entry_hit p i [] (v ∷ vs) w n h x r s = absurd h
  entry_hit p i (a ∷ rows) [] w n h x r s = elim x [ ]
  entry_hit p i (a ∷ rows) (absent ∷ vs) w n h x r s = absurd (h.0 n)
  entry_hit p i (a ∷ rows) (val d ∷ vs) w n h this r s = subst (λ (q : Spot). Hit q w) (at_place p i r) ((h.0 n).hit r s)
  entry_hit p i (a ∷ rows) (val d ∷ vs) w n h (later x) r s = entry_hit p (suc i) rows vs w n h.1 x r s

  pub object_hit : (p : Path) (gs : List Group) (vs : List Val) (w : Log) → NoneSkipped w → Each (InGroup p) gs vs w
      → (r : Spot) → NullAt (object (fields (keys gs) vs)) r → Hit (spot_of_path Q p ++ r) w
  object_hit p gs vs w n h r (in_object x s) = field_hit p gs vs w n h x _ s

  pub list_hit : (p : Path) (rows : List ℕ) (vs : List Val) (w : Log) → NoneSkipped w → Each (InList p) (numbered 0 rows) vs w
      → (r : Spot) → NullAt (list (entries vs)) r → Hit (spot_of_path Q p ++ r) w
  list_hit p rows vs w n h r (in_list x s) = entry_hit p 0 rows vs w n h x _ s
