-- The items of a list and the fields of an input object: an opened container is made of its parts, one after another. Assumes nothing.
use mathlib.Core.Path.{◌≡◌, refl, sym, ◌∙◌}
use mathlib.Core.List.{List, [], ◌∷◌, ◌++◌, map, append_assoc}
use Rattle.std.specs.Prelude.{Option, Some, None}
use Prim.Native.Nat.{ℕ, zero, suc, ◌+◌, ◌-◌, ◌≤◌, ◌<◌}
use native.Mathlib.Omega.{arith}
use lib.ListN.{length}
use Rattle.rows.specs.Limits.{most_fields}
use Rattle.rows.specs.Names.{name_text}
use Rattle.rows.specs.Schema.{field_at}
use Rattle.rows.specs.declared.layout.Range.{Range}
use Rattle.rows.specs.declared.schema.Field.{Field}
use Rattle.codes.specs.Outcome.{too_far}
use Rattle.codes.specs.declared.errors.FieldError.TheVariants as error
use Rattle.tokens.specs.Escape.{quoted}
use Rattle.writing.specs.Wrote.{Writes, Closes}
use Rattle.writing.proofs.WritesLaws.{stay}
use Rattle.graphql.specs.Run.{Path, M, pure, in_order, ◌>>=◌}
use Rattle.graphql.specs.Json.{Json, array, object, items, members, print, print_items, print_members, containers, containers_of_items, containers_of_members}
use Rattle.graphql.specs.Lookup.{rows_from, rows_in, non_null}
use Rattle.graphql.specs.Values.{opened, part_by_part}
use Rattle.graphql.specs.Coerce.{coerce_items, input_field, input_fields, coerce_argument_value}
use Rattle.input_coercion.specs.Coerced.{given_for, inside}
use Rattle.echoing.specs.Echo.{Put, Shows, Echoes, EchoesFields, field_size, field_label, field_text, field_out, of_part, of_value, of_items, of_field, of_fields}
use Rattle.echoing.proofs.Comes.{made, comes_pure, comes_halt, not_failed}
use Rattle.echoing.proofs.Leaves.{never}
use Rattle.echoing.proofs.Loop.{largest, outs, behind, Going, going_begin, going_again, container_stopped, container_ended}

-- ---- the parts and what is made of them

unfoldable pub item_out : ℕ → Json → List ℕ
item_out row j = (44 ∷ []) ++ print j

items_deep : (js : List Json) → containers_of_items (items js) ≡ largest containers js
unfolding containers_of_items items largest
items_deep [] = refl
items_deep (j ∷ js) = rw (items_deep js)

items_text : (rows : List ℕ) (js : List Json) → length js ≡ length rows → print_items (items js) ≡ outs item_out rows js
unfolding print_items items outs item_out
items_text [] [] e = refl
items_text [] (j ∷ js) e = absurd (omega arith)
items_text (row ∷ rows) [] e = absurd (omega arith)
items_text (row ∷ rows) (j ∷ js) e = rw (items_text rows js (omega arith))

module _ (pool names fields : List ℕ) where
  abbrev key : ℕ → List ℕ
  key field = name_text pool names (field_at fields field).name

  members_deep : (rows : List ℕ) (vs : List (Option Json)) → length vs ≡ length rows
      → containers_of_members (members (map key rows) vs) ≡ largest field_size vs
  unfolding containers_of_members members largest field_size
  members_deep [] [] e = refl
  members_deep [] (v ∷ vs) e = absurd (omega arith)
  members_deep (row ∷ rows) [] e = absurd (omega arith)
  members_deep (row ∷ rows) (None ∷ vs) e = let n = members_deep rows vs (omega arith) in omega arith
  members_deep (row ∷ rows) (Some j ∷ vs) e = rw (members_deep rows vs (omega arith))

  members_text : (rows : List ℕ) (vs : List (Option Json)) → print_members (members (map key rows) vs) ≡ outs (field_out pool names fields) rows vs
  unfolding print_members members outs field_out field_text field_label
  members_text [] vs = refl
  members_text (row ∷ rows) [] = refl
  members_text (row ∷ rows) (None ∷ vs) = members_text rows vs
  members_text (row ∷ rows) (Some j ∷ vs) =
      rw (
        append_assoc (quoted (key row)) (58 ∷ []) (print j),
        append_assoc (quoted (key row)) (58 ∷ print j) (outs (field_out pool names fields) rows vs),
        members_text rows vs,
      )

module _ (pool names refs types fields nodes literals variables : List ℕ) where
  -- ---- the items of a list

  module _ (room inner : ℕ) where
    abbrev item : ℕ → Path → M Json
    item = of_value pool names refs types fields nodes literals variables (room - 1) inner

    items_opened : (rows : List ℕ) → (room ≡ 0 → ⊥) → (p : Path)
        → of_items pool names refs types fields nodes literals variables room inner rows p
        ≡ (in_order (λ row. item row p) rows >>= λ js. pure (array (items js)))
    unfolding of_items coerce_items opened inside of_value
    items_opened rows z p = go room z
      where
        go : (n : ℕ) → (n ≡ 0 → ⊥) → of_items pool names refs types fields nodes literals variables n inner rows p
            ≡ (in_order (λ row. of_value pool names refs types fields nodes literals variables (n - 1) inner row p) rows >>= λ js. pure (array
            (items js)))
        go zero h = absurd (h refl)
        go (suc n) h = let e : suc n - 1 ≡ n = omega arith in rw e

    pub items_full : (rows : List ℕ) {text : List ℕ} {at : ℕ} → room ≡ 0
        → Echoes room (of_items pool names refs types fields nodes literals variables room inner rows) text at None text
    unfolding of_items coerce_items opened
    items_full rows {text} {at} z = rw z (never containers print 0 _ text at (λ p j q. comes_halt too_far q))

    abbrev GoingItems : (first count : ℕ) (text₀ : List ℕ) (at : ℕ) (text : List ℕ) (next i : ℕ) → Type 0
    GoingItems first count text₀ at text next i = Going containers item_out (room - 1) item first count text₀ at text next i

    module _ (rows : Range) {text₀ : List ℕ} {at : ℕ} where
      pub items_begin : rows.first + rows.count ≤ 4294967296 → GoingItems rows.first rows.count text₀ at text₀ at 0
      items_begin w = going_begin containers item_out (room - 1) item rows.first rows.count text₀ at w

      module _ {text text1 text2 : List ℕ} {next value i : ℕ} {r : Put} (g : GoingItems rows.first rows.count text₀ at text next i)
          (l : i < rows.count) (w : Writes text text1 next value (44 ∷ [])) (q : Echoes (room - 1) (item
          (rows.first + i)) text1 value r text2) where
        item_shown : Shows containers (item_out (rows.first + i)) (room - 1) (item (rows.first + i)) text next r text2
        unfolding item_out
        item_shown = behind w q

        pub items_again : {end : ℕ} → r ≡ Some end → GoingItems rows.first rows.count text₀ at text2 end (i + 1)
        items_again e = going_again containers item_out (room - 1) item rows.first rows.count text₀ at g l item_shown e

        pub items_stopped : (room ≡ 0 → ⊥) → r ≡ None
            → Echoes room (of_items pool names refs types fields nodes literals variables room inner (rows_in rows)) text₀ at None text2
        unfolding rows_in containers print
        items_stopped z e =
            container_stopped containers item_out room item rows.first rows.count text₀ at z 91 93 (λ js. array (items js))
            (λ js n. rw (items_deep js)) (λ js n. rw (items_text (rows_from rows.first rows.count) js n)) _ (items_opened
            (rows_in rows) z) g l item_shown e

      pub items_ended : {text text2 : List ℕ} {next i end : ℕ} → GoingItems rows.first rows.count text₀ at text next i → (room ≡ 0 → ⊥)
          → rows.count ≤ i → Closes 91 93 text at next text2 end
          → Echoes room (of_items pool names refs types fields nodes literals variables room inner (rows_in rows)) text₀ at (Some end) text2
      unfolding rows_in containers print
      items_ended g z l c =
          container_ended containers item_out room item rows.first rows.count text₀ at z 91 93 (λ js. array (items js))
          (λ js n. rw (items_deep js)) (λ js n. rw (items_text (rows_from rows.first rows.count) js n)) _ (items_opened (rows_in rows) z) g l c

  -- ---- a field

  module _ (room : ℕ) (given : List ℕ) (field : ℕ) {found : Option ℕ} {def : Field} (e : found ≡ (given_for fields literals given field))
      (d : def ≡ field_at fields field) {text : List ℕ} {at : ℕ} where
    module _ {text1 text2 : List ℕ} {value : ℕ} {r : Put}
        (w : Writes text text1 at value (field_label (name_text pool names (field_at fields field).name))) where
      pub field_given : {literal : ℕ} → found ≡ Some literal
          → Echoes room (of_value pool names refs types fields nodes literals variables room def.ty literal) text1 value r text2
          → Shows field_size (field_out pool names fields field) room (of_field pool names refs types fields nodes literals variables room given field)
          text at r text2
      unfolding of_field input_field inside of_value field_out field_text field_size
      field_given {literal} h q =
          let o = behind w q in
          record {
            long = o.long;
            shown = λ k v c.
                let n = made (coerce_argument_value pool names refs types fields nodes literals variables room k.1 def.ty literal) Some v
                (rw (sym e ∙ h, ← d) at c) in
                rw (← n.is) (o.shown k.1 n.value n.first);
          }

      pub field_default_lem : {default : ℕ} → found ≡ None → def.default ≡ Some default
          → Echoes room (of_part pool names literals room default) text1 value r text2
          → Shows field_size (field_out pool names fields field) room (of_field pool names refs types fields nodes literals variables room given field)
          text at r text2
      unfolding of_field input_field of_part field_out field_text field_size
      field_default_lem {default} h u q =
          let o = behind w q in
          let s : suc room - 1 ≡ room = omega arith in
          record {
            long = o.long;
            shown = λ k v c.
                let n = made (part_by_part pool names literals room default) Some v
                (rw (sym e ∙ h, ← d, u, s) at c) in
                rw (← n.is) (o.shown k.1 n.value n.first);
          }

    pub field_absent : found ≡ None → def.default ≡ None
        → Shows field_size (field_out pool names fields field) room (of_field pool names refs types fields nodes literals variables room given field)
        text at (Some at) text
    unfolding of_field input_field field_out field_text field_size
    field_absent h u = record {
      long = refl;
      shown = λ k v c.
          let n = comes_pure (not_failed (non_null refs (field_at fields field).ty) literals error.MissingInputField k.0 k.1 (pure None)
          (rw u at (rw (sym e ∙ h, ← d) at c))) in
          rw (← n) (record { fits = λ l. record { end = at; is = refl; writes = stay text at }; full = λ l. absurd (omega arith) });
    }

  -- ---- the fields of an input object

  module _ (room : ℕ) (given : List ℕ) where
    abbrev part : ℕ → (ℕ × Path) → M (Option Json)
    part = of_field pool names refs types fields nodes literals variables (room - 1) given

    fields_opened : (declared : List ℕ) → (room ≡ 0 → ⊥) → (k : ℕ × Path)
        → of_fields pool names refs types fields nodes literals variables room given declared k
        ≡ (in_order (λ field. part field k) declared >>= λ js. pure (object (members (map (key pool names fields) declared) js)))
    unfolding of_fields input_fields opened of_field given_for
    fields_opened declared z k = go room z
      where
        go : (n : ℕ) → (n ≡ 0 → ⊥) → of_fields pool names refs types fields nodes literals variables n given declared k
            ≡ (in_order (λ field. of_field pool names refs types fields nodes literals variables (n - 1) given field k) declared
            >>= λ js. pure (object (members (map (key pool names fields) declared) js)))
        go zero h = absurd (h refl)
        go (suc n) h = let e : suc n - 1 ≡ n = omega arith in rw e

    pub fields_full : (declared : List ℕ) {text : List ℕ} {at : ℕ} → room ≡ 0
        → EchoesFields pool names refs types fields nodes literals variables room given declared text at None text
    unfolding of_fields input_fields opened
    fields_full declared {text} {at} z = rw z (never containers print 0 _ text at (λ p j q. comes_halt too_far q))

    abbrev GoingFields : (first count : ℕ) (text₀ : List ℕ) (at : ℕ) (text : List ℕ) (next i : ℕ) → Type 0
    GoingFields first count text₀ at text next i = Going field_size (field_out pool names fields) (room - 1) part first count text₀ at text next i

    module _ (declared : Range) {text₀ : List ℕ} {at : ℕ} where
      pub fields_begin : declared.first + declared.count ≤ most_fields → GoingFields declared.first declared.count text₀ at text₀ at 0
      fields_begin w =
          going_begin field_size (field_out pool names fields) (room - 1) part declared.first declared.count text₀ at (omega arith)

      module _ {text text2 : List ℕ} {next i : ℕ} {r : Put} (g : GoingFields declared.first declared.count text₀ at text next i)
          (l : i < declared.count)
          (q : Shows field_size (field_out pool names fields (declared.first + i)) (room - 1) (part (declared.first + i)) text next r text2) where
        pub fields_again : {end : ℕ} → r ≡ Some end → GoingFields declared.first declared.count text₀ at text2 end (i + 1)
        fields_again e = going_again field_size (field_out pool names fields) (room - 1) part declared.first declared.count text₀ at g l q e

        pub fields_stopped : (room ≡ 0 → ⊥) → r ≡ None
            → EchoesFields pool names refs types fields nodes literals variables room given (rows_in declared) text₀ at None text2
        unfolding rows_in containers print
        fields_stopped z e =
            container_stopped field_size (field_out pool names fields) room part declared.first declared.count text₀ at z 123 125
            (λ js. object (members (map (key pool names fields) (rows_from declared.first declared.count)) js))
            (λ js n. rw (members_deep pool names fields (rows_from declared.first declared.count) js n))
            (λ js n. rw (members_text pool names fields (rows_from declared.first declared.count) js)) _ (fields_opened
            (rows_in declared) z) g l q e

      pub fields_ended : {text text2 : List ℕ} {next i end : ℕ} → GoingFields declared.first declared.count text₀ at text next i
          → (room ≡ 0 → ⊥) → declared.count ≤ i → Closes 123 125 text at next text2 end
          → EchoesFields pool names refs types fields nodes literals variables room given (rows_in declared) text₀ at (Some end) text2
      unfolding rows_in containers print
      fields_ended g z l c =
          container_ended field_size (field_out pool names fields) room part declared.first declared.count text₀ at z 123 125
          (λ js. object (members (map (key pool names fields) (rows_from declared.first declared.count)) js))
          (λ js n. rw (members_deep pool names fields (rows_from declared.first declared.count) js n))
          (λ js n. rw (members_text pool names fields (rows_from declared.first declared.count) js)) _ (fields_opened (rows_in declared) z) g l c
