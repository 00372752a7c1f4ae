-- The definitions of spans, at work: of four groups the second is taken, with an entry of five bytes.
use Rattle.std.specs.Prelude.{◌≡◌, refl, List, [], ◌∷◌, ℕ}
use Rattle.ordering.specs.Spans.{open_at, opens, together, next_group, past_choice, span_of, entry_start}

ws : List ℕ
ws = 0 ∷ 6 ∷ 0 ∷ 0 ∷ []

-- three are left, and the one that has another before it is the third
left : opens ws ≡ 3
unfolding ws opens
left = refl

second_open : open_at ws 1 ≡ 2
unfolding ws open_at
second_open = refl

-- so a choice of 4, modulo 3, picks it; a choice that there is not picks the first
picked : next_group ws (7 ∷ 4 ∷ []) 0 4 1 1 ≡ 2
unfolding ws open_at
picked = refl

picked_first : next_group ws (7 ∷ 4 ∷ []) 0 4 1 2 ≡ 0
unfolding ws open_at
picked_first = refl

last_choice : past_choice (7 ∷ 4 ∷ []) 1 ≡ 2
last_choice = refl

no_choice : past_choice (7 ∷ 4 ∷ []) 2 ≡ 2
no_choice = refl

-- its entry was written from 10 to 15 of a text of 20 bytes, and that of the third goes behind it
span : span_of 20 10 15 ≡ 6
span = refl

too_long : span_of 12 10 15 ≡ 1
too_long = refl

start : entry_start (0 ∷ 6 ∷ []) 10 15 ≡ 15
unfolding together
start = refl
