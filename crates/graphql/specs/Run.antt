-- What a run is: it reads choices, logs events, and ends stopped, failed or done. The two combinators that go through several parts:
-- `in_order` for the items of a list, `any_order` for the groups of a selection set, in the order that the choices say. Read it first.
use Rattle.std.specs.Prelude.{List, [], ◌∷◌, ◌++◌, Bool, true, false, ℕ, zero, suc, ◌%◌, length}

-- A place in the response: "two words a segment (0 and name, or 1 and index)".
pub data Segment : Type 0 where
  name : ℕ → Segment
  index : ℕ → Segment

abbrev pub Path : Type 0
Path = List Segment

-- An error record: its code, its place in the document or the schema, its path in the response.
pub record ErrorRecord : Type 0 where
  pub code : ℕ
  pub place : ℕ
  pub path : Path

-- What a run writes down: an error record, a selection set that was given up, a list item that was skipped.
pub data Event : Type 0 where
  err : ErrorRecord → Event
  given_up : Path → Event
  skipped : Path → Event

abbrev pub Log : Type 0
Log = List Event

abbrev pub Choices : Type 0
Choices = List ℕ

-- How far a failure goes up. `past_list` is an error answer inside a list: "fails the list itself".
pub data Reach : Type 0 where
  here : Reach
  past_list : Reach

-- The end of a run: it stopped with a code of document 01, it failed, or it is done with a value and the choices that are left.
pub data Res (A : Type 0) : Type 0 where
  stop : ℕ → Log → Res A
  failed : Reach → Log → Choices → Res A
  done : A → Log → Choices → Res A

abbrev pub M : Type 0 → Type 0
M A = Choices → Res A

module _ {A : Type 0} where
  -- `x` after what was logged before it
  unfoldable pub after : Log → Res A → Res A
  after u (stop s w) = stop s (u ++ w)
  after u (failed r w c) = failed r (u ++ w) c
  after u (done a w c) = done a (u ++ w) c

  unfoldable pub pure : A → M A
  pure a c = done a [] c

  unfoldable pub halt : ℕ → M A
  halt s c = stop s []

  -- a failure with one event
  unfoldable pub fail : Reach → Event → M A
  fail r e c = failed r (e ∷ []) c

  unfoldable pub caught : A → Res A → Res A
  caught a (stop s w) = stop s w
  caught a (failed here w c) = done a w c
  caught a (failed past_list w c) = failed past_list w c
  caught a (done b w c) = done b w c

  -- `a` where `m` fails
  unfoldable pub or_else : A → M A → M A
  or_else a m c = caught a (m c)

  unfoldable pub lowered : Res A → Res A
  lowered (stop s w) = stop s w
  lowered (failed r w c) = failed here w c
  lowered (done b w c) = done b w c

  -- what went past a list has passed it
  unfoldable pub passed : M A → M A
  passed m c = lowered (m c)

  unfoldable pub marked : Event → Res A → Res A
  marked e (stop s w) = stop s w
  marked e (failed r w c) = failed here (e ∷ w) c
  marked e (done b w c) = done b w c

  -- `m`, and where it fails `e` is logged before what it logged. A field's failure goes no further than any other, whichever field it was
  unfoldable pub mark : Event → M A → M A
  mark e m c = marked e (m c)

module _ {A B : Type 0} where
  unfoldable pub onward : Res A → (A → M B) → Res B
  onward (stop s w) k = stop s w
  onward (failed r w c) k = failed r w c
  onward (done a w c) k = after w (k a c)

  infixl 20 ◌>>=◌
  unfoldable pub ◌>>=◌ : M A → (A → M B) → M B
  ◌>>=◌ m k = λ c. onward (m c) k

-- `m` or `n`, by a test
unfoldable pub when : {A : Type 0} → Bool → M A → M A → M A
when true m n = m
when false m n = n

unfoldable pub note : Event → {A : Type 0} → M A → M A
note e m c = after (e ∷ []) (m c)

-- the next choice, or 0 where none is left, modulo `n`
unfoldable pub pick : ℕ → M ℕ
pick n [] = done 0 [] []
pick n (x ∷ c) = done (x % n) [] c

module _ {A : Type 0} where
  -- the element at `i` of a list that is not empty, and the others
  unfoldable pub the : ℕ → A → List A → A
  the zero a l = a
  the (suc i) a [] = a
  the (suc i) a (b ∷ bs) = the i b bs

  unfoldable pub others : ℕ → A → List A → List A
  others zero a l = l
  others (suc i) a [] = []
  others (suc i) a (b ∷ bs) = a ∷ others i b bs

  -- `a` put back at `i`
  unfoldable pub put_back : ℕ → A → List A → List A
  put_back zero a l = a ∷ l
  put_back (suc i) a [] = a ∷ []
  put_back (suc i) a (b ∷ bs) = b ∷ put_back i a bs

module _ {G B : Type 0} (run : G → M B) where
  unfoldable pub taking : ℕ → List G → M (List B)
  taking zero gs = pure []
  taking (suc k) [] = pure []
  taking (suc k) (g ∷ gs) = do
    i ← pick (suc (length gs))
    v ← run (the i g gs)
    vs ← taking k (others i g gs)
    pure (put_back i v vs)

  -- all groups, in the order that the choices say; the results stand in the groups' own order
  unfoldable pub any_order : Path → List G → M (List B)
  any_order p gs = mark (given_up p) (taking (length gs) gs)

  -- all items in their own order
  unfoldable pub in_order : List G → M (List B)
  in_order [] = pure []
  in_order (g ∷ gs) = do
    v ← run g
    vs ← in_order gs
    pure (v ∷ vs)
