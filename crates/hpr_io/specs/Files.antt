-- Files by their names.
--
-- Files                == pairs of a name and its bytes, of which the first pair with a name counts
-- files_in pairs       == the files that pairs of a text and a vector stand for
-- lookup files name    == the bytes under this name, and none where no pair has it
-- bytes_of files name  == the bytes under this name, and no bytes where it is absent
use Rattle.std.specs.Prelude.{ℕ, List, [], ◌∷◌, Option, Some, None, if◌then◌else◌, unwrap_or, map, String, Vec, string_bytes}
use Rattle.std.specs.Global.{Global}
use Rattle.std.specs.Str.{bytes_eq}

abbrev pub Files : Type 0
Files = List (List ℕ × List ℕ)

abbrev pub files_in : List (String Global × Vec ℕ Global) → Files
files_in pairs = map (λ p. (string_bytes p.0, p.1.items)) pairs

abbrev pub lookup : Files → List ℕ → Option (List ℕ)
lookup [] name = None
lookup (file ∷ files) name = if bytes_eq file.0 name then Some file.1 else lookup files name

abbrev pub bytes_of : Files → List ℕ → List ℕ
bytes_of files name = unwrap_or (lookup files name) []
