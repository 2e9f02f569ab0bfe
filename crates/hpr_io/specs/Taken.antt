-- What a sink took, where it tells it.
--
-- taken_then taken bytes          == what was taken, and then these bytes; nothing is told where nothing was
-- TookStrictPrefix old new bytes  == from old to new the sink took some first bytes of these, in order, and
--                                    not all of them
use Rattle.std.specs.Prelude.{◌≡◌, ℕ, ◌<◌, List, ◌++◌, length, take, Option, option_map}

abbrev pub taken_then : Option (List ℕ) → List ℕ → Option (List ℕ)
taken_then taken bytes = option_map (λ xs. xs ++ bytes) taken

pub record TookStrictPrefix (old new : Option (List ℕ)) (bytes : List ℕ) : Type 0 where
  pub count : ℕ
  pub fewer : count < length bytes
  pub taken : new ≡ taken_then old (take count bytes)
