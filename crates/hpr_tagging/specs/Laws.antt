-- What is so of the tags that a text gets.
--
-- AreInOrder n cs m   == the bytes in whose place the changes put something follow one another, from the
--                        byte n on, up to the byte m
-- ChangesInOrder      == what is put into a text follows its order, and stands within it
-- label_of p          == the serial of the tag that is put in, in a list; none where it is no tag
-- labels cs           == the serials of the tags that the changes put in, in their order
-- serials_from n k    == n, n + 1, .. : k of them
-- NewSerials          == the tags that are put in have, in the order of the text, the serials above the
--                        greatest one that its author has there, one for each part without a tag
-- TaggedStays         == a text without such a part stays as it is
use Rattle.std.specs.Prelude.{◌≡◌, ℕ, zero, suc, ◌+◌, ◌≤◌, List, [], ◌∷◌, ◌++◌, length}
use Rattle.hpr_tagging.specs.declared.lexemes.Kind.TheVariants.{Other}
use Rattle.hpr_tagging.specs.declared.lexemes.Begun.TheVariants.{Nothing}
use Rattle.hpr_tagging.specs.declared.changes.Put.{Put}
use Rattle.hpr_tagging.specs.declared.changes.Put.TheVariants.{Label, Raised, Pair}
use Rattle.hpr_tagging.specs.declared.changes.Change.{Change}
use Rattle.hpr_tagging.specs.Lexemes.{lexemes}
use Rattle.hpr_tagging.specs.Tagging.{greatest_in, untagged, changes_in, kept}

abbrev pub AreInOrder : ℕ → List Change → ℕ → Type 0
AreInOrder n [] m = n ≤ m
AreInOrder n (c ∷ cs) m = (n ≤ c.first) × (c.first ≤ c.end) × AreInOrder c.end cs m

abbrev pub ChangesInOrder : Type 0
ChangesInOrder = (a : ℕ) (bytes : List ℕ) → AreInOrder 0 (changes_in a bytes) (length bytes)

abbrev pub label_of : Put → List ℕ
label_of (Label n) = n ∷ []
label_of (Raised n) = []
label_of (Pair n) = []

abbrev pub labels : List Change → List ℕ
labels [] = []
labels (c ∷ cs) = label_of c.put ++ labels cs

abbrev pub serials_from : ℕ → ℕ → List ℕ
serials_from n zero = []
serials_from n (suc k) = n ∷ serials_from (n + 1) k

abbrev pub NewSerials : Type 0
NewSerials =
    (a : ℕ) (bytes : List ℕ)
    → labels (changes_in a bytes)
    ≡ serials_from (greatest_in a Other Other (lexemes Nothing 0 bytes) + 1)
    (untagged Other Other (lexemes Nothing 0 bytes))

abbrev pub TaggedStays : Type 0
TaggedStays =
    (a : ℕ) (bytes : List ℕ) → untagged Other Other (lexemes Nothing 0 bytes) ≡ 0 → kept a bytes ≡ bytes
