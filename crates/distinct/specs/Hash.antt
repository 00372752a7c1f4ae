-- A number that equal bytes have in common. Any function of the bytes would do; this one takes eight of them a step.
use Rattle.std.specs.Prelude.{List, ℕ, zero, suc, ◌+◌, ◌*◌, ◌-◌, ◌/◌, ◌%◌, length, get_or}

-- four bytes as a number; 0 for a byte past the end
unfoldable pub word_at : List ℕ → ℕ → ℕ
word_at bytes i =
    get_or bytes i 0 + 256 * get_or bytes (i + 1) 0 + 65536 * get_or bytes (i + 2) 0 + 16777216 * get_or bytes (i + 3) 0

-- 32 bits from the middle of a sum of two products
unfoldable pub mixed : ℕ → ℕ → ℕ → ℕ
mixed hash one two = ((hash + one) * 1013904223 + two * 1640531527) / 65536 % 4294967296

-- after so many times eight bytes; the length comes first
unfoldable pub hash_steps : List ℕ → ℕ → ℕ
hash_steps bytes zero = length bytes % 4294967296
hash_steps bytes (suc n) = mixed (hash_steps bytes n) (word_at bytes (8 * n)) (word_at bytes (8 * n + 4))

-- then the last eight bytes; 16 bits of what they give
unfoldable pub hash_of : List ℕ → ℕ
hash_of bytes = mixed (hash_steps bytes (length bytes / 8)) (word_at bytes (length bytes - 8)) (word_at bytes (length bytes - 4)) / 256 % 65536
