-- Lines and columns.
--
-- line_at bytes n   == how many newlines stand before the byte n, and one
-- column_at bytes n == how many bytes stand before the byte n and behind the last newline before it, and one;
--                      all before it count where there is no newline
use Rattle.std.specs.Prelude.{ℕ, ◌+◌, not, ◌==◌, List, take, count_by}
use Rattle.std.specs.List.{suffix_len}

-- 10 is a newline
abbrev pub line_at : List ℕ → ℕ → ℕ
line_at bytes n = count_by (λ b. b == 10) (take n bytes) + 1

abbrev pub column_at : List ℕ → ℕ → ℕ
column_at bytes n = suffix_len (λ b. not (b == 10)) (take n bytes) + 1
