-- An editor as plain data.
--
-- Editing       == a program that is edited, and the author of its new parts
-- editing_coded == the same, with numbers that tell them apart
use Rattle.std.specs.Prelude.{ℕ, refl}
use Rattle.std.specs.Coded.{Coded, code_by, coded×, coded_ℕ}
use Rattle.hpr_syntax.specs.Tree.{Tree, tree_coded}

pub record Editing : Type 0 where
  pub program : Tree
  pub author : ℕ

-- the numbers by which a proof tells editors apart
abbrev pub editing_coded : Coded Editing
editing_coded = code_by (Tree × ℕ) (coded× tree_coded coded_ℕ) (λ e. (e.program, e.author)) (λ p. record { program = p.0; author = p.1 }) (λ _. refl)
