-- The definitions of writing, at work. A text is a list of bytes: 44 is the comma, 48 the digit 0.
use Rattle.std.specs.Prelude.{◌≡◌, refl, [], ◌∷◌, ℕ}
use Rattle.writing.specs.Wrote.{written, saturated, bracketed, closed, closed_end, turned_into_place, zeroed_from}

-- ---- a buffer of three, and what is laid over it

-- where there is room for more than that
room : written {A = ℕ} (7 ∷ 8 ∷ 9 ∷ []) 0 (1 ∷ 2 ∷ []) ≡ 1 ∷ 2 ∷ 9 ∷ []
unfolding written
room = refl

room_position : saturated {A = ℕ} (7 ∷ 8 ∷ 9 ∷ []) 0 (1 ∷ 2 ∷ []) ≡ 2
unfolding saturated
room_position = refl

-- just enough: the position is the length
fitting : written {A = ℕ} (7 ∷ 8 ∷ 9 ∷ []) 1 (1 ∷ 2 ∷ []) ≡ 7 ∷ 1 ∷ 2 ∷ []
unfolding written
fitting = refl

fitting_position : saturated {A = ℕ} (7 ∷ 8 ∷ 9 ∷ []) 1 (1 ∷ 2 ∷ []) ≡ 3
unfolding saturated
fitting_position = refl

-- too short: as much as fits, and the position is one past the end, whatever is missing
too_short : written {A = ℕ} (7 ∷ 8 ∷ 9 ∷ []) 2 (1 ∷ 2 ∷ 3 ∷ 4 ∷ []) ≡ 7 ∷ 8 ∷ 1 ∷ []
unfolding written
too_short = refl

too_short_position : saturated {A = ℕ} (7 ∷ 8 ∷ 9 ∷ []) 2 (1 ∷ 2 ∷ 3 ∷ 4 ∷ []) ≡ 4
unfolding saturated
too_short_position = refl

-- from past the end: nothing, and the position comes back to one past it
past_the_end : written {A = ℕ} (7 ∷ 8 ∷ 9 ∷ []) 6 (1 ∷ []) ≡ 7 ∷ 8 ∷ 9 ∷ []
unfolding written
past_the_end = refl

past_the_end_position : saturated {A = ℕ} (7 ∷ 8 ∷ 9 ∷ []) 6 (1 ∷ []) ≡ 4
unfolding saturated
past_the_end_position = refl

-- nothing is laid over: all stays, the position too
nothing : written {A = ℕ} (7 ∷ 8 ∷ 9 ∷ []) 6 [] ≡ 7 ∷ 8 ∷ 9 ∷ []
unfolding written
nothing = refl

nothing_position : saturated {A = ℕ} (7 ∷ 8 ∷ 9 ∷ []) 6 [] ≡ 6
unfolding saturated
nothing_position = refl

-- ---- brackets, turns and zeros

-- no entries: []
no_entries : bracketed 91 93 [] ≡ 91 ∷ 93 ∷ []
unfolding bracketed
no_entries = refl

-- ,1,2: [1,2]
two_entries : bracketed 91 93 (44 ∷ 49 ∷ 44 ∷ 50 ∷ []) ≡ 91 ∷ 49 ∷ 44 ∷ 50 ∷ 93 ∷ []
unfolding bracketed
two_entries = refl

-- the same in a buffer: no entries, entries, and entries with no room for the right bracket
closed_empty : closed 91 93 (7 ∷ 8 ∷ 9 ∷ []) 1 1 ≡ 7 ∷ 91 ∷ 93 ∷ []
unfolding written closed
closed_empty = refl

closed_entry : closed 91 93 (44 ∷ 49 ∷ 9 ∷ []) 0 2 ≡ 91 ∷ 49 ∷ 93 ∷ []
unfolding written closed
closed_entry = refl

closed_entry_position : closed_end 91 93 (44 ∷ 49 ∷ 9 ∷ []) 0 2 ≡ 3
unfolding saturated closed_end
closed_entry_position = refl

closed_short : closed 91 93 (7 ∷ 44 ∷ 49 ∷ []) 1 3 ≡ 7 ∷ 91 ∷ 49 ∷ []
unfolding written closed
closed_short = refl

closed_short_position : closed_end 91 93 (7 ∷ 44 ∷ 49 ∷ []) 1 3 ≡ 4
unfolding saturated closed_end
closed_short_position = refl

-- the last two of four go before the second; and nothing moves where the end is past the buffer's
turned : turned_into_place 1 2 4 (5 ∷ 6 ∷ 7 ∷ 8 ∷ []) ≡ 5 ∷ 7 ∷ 8 ∷ 6 ∷ []
unfolding turned_into_place
turned = refl

not_turned : turned_into_place 1 2 5 (5 ∷ 6 ∷ 7 ∷ 8 ∷ []) ≡ 5 ∷ 6 ∷ 7 ∷ 8 ∷ []
unfolding turned_into_place
not_turned = refl

-- from the second of three elements on, and from past the end
zeroed : zeroed_from 1 (7 ∷ 8 ∷ 9 ∷ []) ≡ 7 ∷ 0 ∷ 0 ∷ []
zeroed = refl

zeroed_past : zeroed_from 4 (7 ∷ 8 ∷ 9 ∷ []) ≡ 7 ∷ 8 ∷ 9 ∷ []
zeroed_past = refl
