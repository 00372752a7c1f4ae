-- The value of an argument among those of a field: the argument of a name is the one of its definition, since names differ. Assumes nothing.
use mathlib.Core.Path.{◌≡◌, refl, sym, ap, ◌∙◌}
use mathlib.Core.Bool.{Bool, true, false, cond}
use mathlib.Core.List.{List, [], ◌∷◌, ◌++◌}
use Rattle.std.specs.Prelude.{Option, Some, None, MatchOption, IsSomeAnd}
use Prim.Native.Nat.{ℕ, zero, suc, ◌+◌, ◌≤◌, ◌<◌}
use native.Mathlib.Omega.{arith}
use borrow.Author.Tests.{eq-eqb, ne_eqb, eqb-true, eqb-false}
use lib.Dec.{eqb}
use types.Run.{miss}
use borrow.Enum.Refused.{Among, opened, shut}
use denote.Enum.Declared.{tag_of}
use Rattle.rows.specs.Schema.{argument_at}
use Rattle.rows.specs.Document.{given_at}
use Rattle.rows.specs.Json.{literal_at, variable_at}
use Rattle.rows.specs.declared.layout.Range.{Range}
use Rattle.rows.specs.declared.schema.Argument.{Argument}
use Rattle.rows.specs.declared.json.VariableValue.{VariableValue}
use Rattle.rows.specs.declared.document.Given.{Given}
use Rattle.codes.specs.Outcome.{most_open}
use Rattle.codes.specs.declared.errors.FieldError.{FieldError}
use Rattle.codes.specs.declared.errors.FieldError.TheVariants as error
use Rattle.graphql.specs.Run.{Path, M, pure, fail, when, in_order, ◌>>=◌}
use Rattle.graphql.specs.Json.{Json}
use Rattle.graphql.specs.Lookup.{rows_from, rows_in, find, variable_named}
use Rattle.graphql.specs.Values.{variable_value, part_by_part, LiteralForm, literal_form, null_given, variable, shaped}
use Rattle.graphql.specs.Coerce.{Arguments, argument_named, argument_error, valued, default_argument, variable_argument, literal_argument, given_argument, coerce_argument, coerce_argument_value, coerce_argument_values}
use Rattle.input_coercion.specs.Coerced.{form_meant, FormAt, given_named}
use Rattle.input_coercion.specs.declared.check.Form.{Form}
use Rattle.input_coercion.specs.declared.check.Form.TheVariants as form
use Rattle.input_coercion.specs.contracts.check.Form.{the_type as form_type}
use Rattle.echoing.specs.Echo.{Comes}
use Rattle.echoing.specs.Source.{ArgumentsDiffer, definition_named, default_source, variable_source, Found, Stands, SourceOf}
use Rattle.echoing.specs.declared.echo.Source.{Source}
use Rattle.echoing.specs.declared.echo.Source.TheVariants as source
use Rattle.echoing.proofs.Comes.{comes_pure, made, More, comes_none, comes_more}

-- ---- a search by name

named_then : (n : ℕ) (a later : Arguments) → argument_named n later ≡ None → argument_named n (a ++ later) ≡ argument_named n a
unfolding argument_named
named_then n [] later e = e
named_then n (x ∷ a) later e = rw (named_then n a later e)

-- the arguments of another name are passed over
abbrev Passed : (label : ℕ) → Arguments → Type 0
Passed label a = (n : ℕ) → (label ≡ n → ⊥) → (later : Arguments) → argument_named n (a ++ later) ≡ argument_named n later

passed_none : (label : ℕ) {a : Arguments} → [] ≡ a → Passed label a
passed_none label e n d later = rw (← e)

passed_one : (label : ℕ) (j : Json) {a : Arguments} → (label, j) ∷ [] ≡ a → Passed label a
unfolding argument_named
passed_one label j e n d later = rw (← e, ne_eqb label n d)

named_one : (label n : ℕ) → label ≡ n → (j : Json) {a : Arguments} → (label, j) ∷ [] ≡ a → argument_named n a ≡ Some j
unfolding argument_named
named_one label n h j e = rw (← e, eq-eqb label n h)

module _ (label : ℕ → ℕ) (n : ℕ) where
  abbrev test : ℕ → Bool
  test row = eqb (label row) n

  -- how the first of the rows is told
  data Told (row : ℕ) (rows : List ℕ) (o : Option ℕ) : Type 0 where
    first : label row ≡ n → o ≡ Some row → Told row rows o
    other : (label row ≡ n → ⊥) → find test rows ≡ o → Told row rows o

  told : (row : ℕ) (rows : List ℕ) (o : Option ℕ) → find test (row ∷ rows) ≡ o → Told row rows o
  unfolding find
  told row rows o e = go (eqb (label row) n) refl e
    where
      go : (b : Bool) → eqb (label row) n ≡ b → cond b (Some row) (find test rows) ≡ o → Told row rows o
      go true h e = first (eqb-true (label row) n h) (sym e)
      go false h e = other (eqb-false (label row) n h) e

  none_there : (row count : ℕ) → ((b : ℕ) → row ≤ b → b < row + count → label b ≡ n → ⊥) → find test (rows_from row count) ≡ None
  unfolding find rows_from
  none_there row zero d = refl
  none_there row (suc count) d =
      rw (ne_eqb (label row) n (d row (omega arith) (omega arith)))
      (none_there (suc row) count (λ b l m. d b (omega arith) (omega arith)))

  module _ (run : ℕ → M Arguments) (pass : (row : ℕ) (a : Arguments) → Comes (run row) a → Passed (label row) a) (joined : List Arguments → Arguments)
      (joined_none : joined [] ≡ []) (joined_more : (a : Arguments) (rest : List Arguments) → joined (a ∷ rest) ≡ a ++ joined rest) where
    none_named : (rows : List ℕ) (each : List Arguments) → find test rows ≡ None → Comes (in_order run rows) each → argument_named n (joined each)
        ≡ None
    unfolding argument_named
    none_named [] each e q = rw (comes_none run q, joined_none)
    none_named (row ∷ rows) each e q =
        let m = comes_more run row rows q in
        go m (λ i. none_named rows m.tail i m.there) (told row rows None e)
      where
        go : (m : More run row rows each) → (find test rows ≡ None → argument_named n (joined m.tail) ≡ None) → Told row rows None
            → argument_named n (joined each) ≡ None
        go m k (first h i) = absurd (let z : ◌≡◌ {A = ℕ} 0 1 = cc in omega arith)
        go m k (other d i) = rw (m.are, joined_more m.head m.tail) (pass row m.head m.here n d (joined m.tail) ∙ k i)

    -- the one of the name, and its arguments
    pub record Chosen (row : ℕ) (each : List Arguments) : Type 0 where
      pub own : Arguments
      pub here : Comes (run row) own
      pub labelled : label row ≡ n
      pub is : argument_named n (joined each) ≡ argument_named n own

    chosen : (start count row : ℕ) (each : List Arguments) → ((a b : ℕ) → start ≤ a → a < b → b < start + count → label a ≡ label b → ⊥)
        → find test (rows_from start count) ≡ Some row → Comes (in_order run (rows_from start count)) each → Chosen row each
    unfolding rows_from find
    chosen start zero row each d e q = absurd (let z : ◌≡◌ {A = ℕ} 0 1 = cc in omega arith)
    chosen start (suc count) row each d e q =
        let m = comes_more run start (rows_from (suc start) count) q in
        go m
        (λ i. chosen (suc start) count row m.tail (λ a b l k o. d a b (omega arith) k (omega arith)) i m.there)
        (told start (rows_from (suc start) count) (Some row) e)
      where
        go : (m : More run start (rows_from (suc start) count) each) → (find test (rows_from (suc start) count) ≡ Some row → Chosen row m.tail)
            → Told start (rows_from (suc start) count) (Some row) → Chosen row each
        go m k (first h i) =
            let s : row ≡ start = cc in
            let later = none_there (suc start) count (λ b l u f. d start b (omega arith) (omega arith) (omega arith) (h ∙ sym f)) in
            rw s (record {
              own = m.head;
              here = m.here;
              labelled = h;
              is = rw (m.are, joined_more m.head m.tail)
                  (named_then n m.head (joined m.tail) (none_named (rows_from (suc start) count) m.tail later m.there));
            })
        go m k (other f i) =
            let c = k i in
            record {
              own = c.own;
              here = c.here;
              labelled = c.labelled;
              is = rw (m.are, joined_more m.head m.tail) (pass start m.head m.here n f (joined m.tail) ∙ c.is);
            }

  record Whole (run : ℕ → M Arguments) (row : ℕ) (args : Arguments) : Type 0 where
    own : Arguments
    here : Comes (run row) own
    labelled : label row ≡ n
    is : argument_named n args ≡ argument_named n own

  module _ (run : ℕ → M Arguments) (pass : (row : ℕ) (a : Arguments) → Comes (run row) a → Passed (label row) a) (joined : List Arguments → Arguments)
      (start count : ℕ) (args : Arguments) (q : Comes (in_order run (rows_from start count) >>= λ each. pure (joined each)) args)
      (joined_none : joined [] ≡ []) (joined_more : (a : Arguments) (rest : List Arguments) → joined (a ∷ rest) ≡ a ++ joined rest) where
    whole_none : find test (rows_from start count) ≡ None → argument_named n args ≡ None
    whole_none e =
        let m = made (in_order run (rows_from start count)) joined args q in
        ap (argument_named n) (sym m.is) ∙ none_named run pass joined joined_none joined_more (rows_from start count) m.value e m.first

    whole : (row : ℕ) → ((a b : ℕ) → start ≤ a → a < b → b < start + count → label a ≡ label b → ⊥) → find test (rows_from start count) ≡ Some row
        → Whole run row args
    whole row d e =
        let m = made (in_order run (rows_from start count)) joined args q in
        let c = chosen run pass joined joined_none joined_more start count row m.value d e m.first in
        record { own = c.own; here = c.here; labelled = c.labelled; is = ap (argument_named n) (sym m.is) ∙ c.is }

-- ---- one argument

module _ (pool names refs types fields nodes literals variables arguments given : List ℕ) (p : Path) (row : ℕ) where
  abbrev label : ℕ
  label = (argument_at arguments row).name

  record Valued (m : M Json) (a : Arguments) : Type 0 where
    value : Json
    first : Comes m value
    is : (label, value) ∷ [] ≡ a

  is_valued : (m : M Json) (a : Arguments) → Comes (valued pool names refs types fields nodes literals variables arguments given row m) a → Valued m a
  unfolding valued
  is_valued m a q = let n = made m (λ j. (label, j) ∷ []) a q in record { value = n.value; first = n.first; is = n.is }

  -- it came to a value, so that it was no error
  no_error : (b : Bool) (e : FieldError) (m : M Arguments) {a : Arguments}
      → Comes (when b (argument_error pool names refs types fields nodes literals variables arguments given e p row) m) a → Comes m a
  unfolding when argument_error fail
  no_error true e m q = let h = q.is in absurd (let z : ◌≡◌ {A = ℕ} 0 1 = cc in omega arith)
  no_error false e m q = q

  module _ (a : Arguments) where
    passed_valued : (m : M Json) → Comes (valued pool names refs types fields nodes literals variables arguments given row m) a → Passed label a
    passed_valued m q = let v = is_valued m a q in passed_one label v.value v.is

    passed_default : (o : Option ℕ) → Comes (default_argument pool names refs types fields nodes literals variables arguments given p row o) a
        → Passed label a
    unfolding default_argument
    passed_default None q = passed_none label (comes_pure (no_error _ error.MissingArgument (pure []) q))
    passed_default (Some d) q = passed_valued (part_by_part pool names literals most_open d) q

    passed_variable : (o : Option ℕ) → Comes (variable_argument pool names refs types fields nodes literals variables arguments given p row o) a
        → Passed label a
    unfolding variable_argument
    passed_variable None q = passed_default (argument_at arguments row).default q
    passed_variable (Some v) q = passed_valued (variable_value pool nodes variables v) (no_error _ error.NullArgument _ q)

    abbrev literal : ℕ → M Json
    literal l = coerce_argument_value pool names refs types fields nodes literals variables most_open p (argument_at arguments row).ty l

    passed_given : (l : ℕ) (f : LiteralForm) → Comes (given_argument pool names refs types fields nodes literals variables arguments given p row l f) a
        → Passed label a
    unfolding given_argument literal_argument
    passed_given l null_given q = passed_valued (literal l) (no_error _ error.NullArgument _ q)
    passed_given l (variable v) q = passed_variable (variable_named variables v) q
    passed_given l (shaped s) q = passed_valued (literal l) q

    passed_any : (o : Option ℕ) → Comes (coerce_argument pool names refs types fields nodes literals variables arguments given p row o) a
        → Passed label a
    unfolding coerce_argument
    passed_any None q = passed_default (argument_at arguments row).default q
    passed_any (Some g) q = passed_given (given_at given g).literal (literal_form (literal_at literals (given_at given g).literal)) q

    -- the argument of the name
    module _ (n : ℕ) (h : label ≡ n) where
      found_valued : (m : M Json) → Comes (valued pool names refs types fields nodes literals variables arguments given row m) a
          → Found m (argument_named n a)
      found_valued m q =
          let v = is_valued m a q in
          record { value = v.value; is = named_one label n h v.value v.is; comes = v.first }

      default_stands : (o : Option ℕ) → Comes (default_argument pool names refs types fields nodes literals variables arguments given p row o) a
          → Stands pool names refs types fields nodes literals variables p (default_source o) (argument_named n a)
      unfolding default_argument default_source argument_named
      default_stands None q = let e : ◌≡◌ {A = Arguments} [] a = comes_pure (no_error _ error.MissingArgument (pure []) q) in rw (← e)
      default_stands (Some d) q = found_valued (part_by_part pool names literals most_open d) q

      variable_stands : (o : Option ℕ) → Comes (variable_argument pool names refs types fields nodes literals variables arguments given p row o) a
          → Stands pool names refs types fields nodes literals variables p (variable_source variables (argument_at arguments row).default o)
          (argument_named n a)
      unfolding variable_argument variable_source variable_value
      variable_stands None q = default_stands (argument_at arguments row).default q
      variable_stands (Some v) q = found_valued (variable_value pool nodes variables v) (no_error _ error.NullArgument _ q)

-- a form that is none of a variable
no_variable : (f : Form) → Among (0 ∷ 2 ∷ []) (tag_of form_type f) → (x : ℕ) → form_meant f ≡ variable x → ⊥
no_variable form.Null o x e = let z : ◌≡◌ {A = ℕ} 0 1 = cc in omega arith
no_variable (form.Variable y) o x e = miss (0 ∷ 2 ∷ []) 1 tt (opened o)
no_variable (form.Shaped s) o x e = let z : ◌≡◌ {A = ℕ} 0 1 = cc in omega arith

-- ---- all of a field's

module _ (arguments given literals variables : List ℕ) (definitions written : Range) (name : ℕ) where
  abbrev labels : ℕ → ℕ
  labels row = (argument_at arguments row).name

  module _ (pool names refs types fields nodes : List ℕ) (p : Path) (args : Arguments)
      (q : Comes (coerce_argument_values pool names refs types fields nodes literals variables arguments given p definitions written) args) where
    abbrev each : ℕ → M Arguments
    each row = coerce_argument pool names refs types fields nodes literals variables arguments given p row (given_named given (labels row)
        (rows_in written))

    passes : (row : ℕ) (a : Arguments) → Comes (each row) a → Passed (labels row) a
    passes row a c =
        passed_any pool names refs types fields nodes literals variables arguments given p row a (given_named given (labels row) (rows_in written)) c

    nothing_named : definition_named arguments name (rows_in definitions) ≡ None → argument_named name args ≡ None
    unfolding coerce_argument_values given_named definition_named rows_in
    nothing_named e = whole_none labels name each passes _ definitions.first definitions.count args q refl (λ a rest. refl) e

    the_own : ArgumentsDiffer arguments definitions → (row : ℕ) → definition_named arguments name (rows_in definitions) ≡ Some row
        → Whole labels name each row args
    unfolding coerce_argument_values given_named definition_named rows_in
    the_own d row e = whole labels name each passes _ definitions.first definitions.count args q refl (λ a rest. refl) row d.differ e

  module _ {found : Option ℕ} (e : found ≡ (definition_named arguments name (rows_in definitions))) where
    pub source_unknown : found ≡ None → SourceOf arguments given literals variables definitions written name None
    source_unknown h = record {
      stands = λ pool names refs types fields nodes p args q.
          nothing_named pool names refs types fields nodes p args q (sym e ∙ h);
    }

    module _ (d : ArgumentsDiffer arguments definitions) {row : ℕ} (h : found ≡ Some row) where
      own_of : (pool names refs types fields nodes : List ℕ) (p : Path) (args : Arguments)
          (q : Comes (coerce_argument_values pool names refs types fields nodes literals variables arguments given p definitions written) args)
          → Whole labels name (each pool names refs types fields nodes p args q) row args
      own_of pool names refs types fields nodes p args q =
          the_own pool names refs types fields nodes p args q d row (sym e ∙ h)

    module _ (d : ArgumentsDiffer arguments definitions) {row : ℕ} {argument : Argument} {there : Option ℕ} (h : found ≡ Some row)
        (a : argument ≡ argument_at arguments row) (g : there ≡ (given_named given name (rows_in written))) where
      pub source_default : {r : Option Source} → there ≡ None → r ≡ default_source argument.default
          → SourceOf arguments given literals variables definitions written name r
      unfolding coerce_argument
      source_default n k = record {
        stands = λ pool names refs types fields nodes p args q.
            let c = own_of d h pool names refs types fields nodes p args q in
            rw (c.is, k, a)
            (default_stands pool names refs types fields nodes literals variables arguments given p row c.own name c.labelled
            (argument_at arguments row).default
            (rw (c.labelled, sym g ∙ n) at c.here));
      }

      module _ {at : ℕ} {value : Given} {f : Form} (n : there ≡ Some at) (v : value ≡ given_at given at) (l : FormAt literals value.literal f) where
        pub source_variable : {r : Option Source} {x : ℕ} → f ≡ form.Variable x
            → r ≡ variable_source variables argument.default (variable_named variables x)
            → SourceOf arguments given literals variables definitions written name r
        unfolding coerce_argument given_argument
        source_variable {x = x} i k = record {
          stands = λ pool names refs types fields nodes p args q.
              let c = own_of d h pool names refs types fields nodes p args q in
              rw (c.is, k, a)
              (variable_stands pool names refs types fields nodes literals variables arguments given p row c.own name c.labelled
              (variable_named variables x)
              (rw (c.labelled, sym g ∙ n, ← v, l.is, i) at c.here));
        }

        pub source_literal : Among (0 ∷ 2 ∷ []) (tag_of form_type f)
            → SourceOf arguments given literals variables definitions written name (Some (source.Literal argument.ty value.literal))
        unfolding coerce_argument given_argument literal_argument
        source_literal o = record {
          stands = λ pool names refs types fields nodes p args q.
              let c = own_of d h pool names refs types fields nodes p args q in
              rw (c.is, a)
              (record {
                found = found_valued pool names refs types fields nodes literals variables arguments given p row c.own name c.labelled
                    (coerce_argument_value pool names refs types fields nodes literals variables most_open p (argument_at arguments row).ty
                    value.literal)
                    (go pool names refs types fields nodes p c.own f o
                    (rw (c.labelled, sym g ∙ n, ← v, l.is) at c.here));
                shaped = λ x i. no_variable f o x (rw l.is at i);
              });
        }
          where
            go : (pool names refs types fields nodes : List ℕ) (p : Path) (own : Arguments) (f : Form) → Among (0 ∷ 2 ∷ []) (tag_of form_type f)
                → Comes (given_argument pool names refs types fields nodes literals variables arguments given p row value.literal (form_meant f)) own
                → Comes (literal_argument pool names refs types fields nodes literals variables arguments given p row value.literal) own
            go pool names refs types fields nodes p own form.Null o q =
                no_error pool names refs types fields nodes literals variables arguments given p row _ error.NullArgument _ q
            go pool names refs types fields nodes p own (form.Variable x) o q = absurd (miss (0 ∷ 2 ∷ []) 1 tt (opened o))
            go pool names refs types fields nodes p own (form.Shaped s) o q = q

pub ruleset sourcing = (source_unknown, source_default, source_variable, source_literal, shut)

-- ---- the small ones

pub default_mapped : (o : Option ℕ) (r : Option Source) → MatchOption o (r ≡ None) (λ row. IsSomeAnd r (λ s. s ≡ source.Default row))
    → r ≡ default_source o
unfolding default_source
default_mapped None r e = e
default_mapped (Some row) None e = absurd e
default_mapped (Some row) (Some s) e = rw e

module _ (variables : List ℕ) (default : Option ℕ) (name : ℕ) {found : Option ℕ} (e : found ≡ (variable_named variables name)) where
  pub variable_default : {r : Option Source} → found ≡ None → r ≡ default_source default
      → r ≡ variable_source variables default (variable_named variables name)
  unfolding variable_source
  variable_default h k = rw (sym e ∙ h, k)

  pub variable_node : {v : ℕ} {value : VariableValue} → found ≡ Some v → value ≡ variable_at variables v
      → Some (source.Node value.node) ≡ variable_source variables default (variable_named variables name)
  unfolding variable_source
  variable_node h k = rw (sym e ∙ h, k)
