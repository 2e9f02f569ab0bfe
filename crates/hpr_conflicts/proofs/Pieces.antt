-- Texts in pieces.
use Rattle.std.proofs.Common.{◌≡◌, ℕ, List, ◌++◌, append_assoc, sym, ◌∙◌}

pub three : (a l b : List ℕ) → a ++ (l ++ b) ≡ a ++ l ++ b
three a l b = sym (append_assoc a l b)

pub four : (a l b m : List ℕ) → a ++ (l ++ (b ++ m)) ≡ a ++ l ++ b ++ m
four a l b m = three a l (b ++ m) ∙ three (a ++ l) b m

pub five : (a l b m d : List ℕ) → a ++ (l ++ (b ++ (m ++ d))) ≡ a ++ l ++ b ++ m ++ d
five a l b m d = four a l b (m ++ d) ∙ three (a ++ l ++ b) m d
