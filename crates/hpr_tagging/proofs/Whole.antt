-- What is found in the bytes is what the definitions say of them.
use Rattle.std.proofs.Common.{◌≡◌, ℕ, List, ap, ◌∙◌}
use Rattle.hpr_tagging.specs.declared.lexemes.Begun.TheVariants.{Nothing}
use Rattle.hpr_tagging.specs.declared.lexemes.Lexeme.{Lexeme}
use Rattle.hpr_tagging.specs.declared.counts.Numbering.{Numbering}
use Rattle.hpr_tagging.specs.declared.changes.Change.{Change}
use Rattle.hpr_tagging.specs.Lexemes.{lexemes}
use Rattle.hpr_tagging.specs.Tagging.{last_serial, numbering_of, changes_of, changes_in, last_in}

pub changes_are : (a : ℕ) (bytes : List ℕ) (ls : List Lexeme) (m : Numbering) (cs : List Change) → ls ≡ lexemes Nothing 0 bytes → m ≡ numbering_of a ls
    → cs ≡ changes_of m ls
    → cs ≡ changes_in a bytes
unfolding changes_in
changes_are a bytes ls m cs l_is m_is c_is =
    c_is ∙ ap (λ (n : Numbering). changes_of n ls) m_is ∙ ap (λ (xs : List Lexeme). changes_of (numbering_of a xs) xs) l_is

pub last_is : (a : ℕ) (bytes : List ℕ) (ls : List Lexeme) → ls ≡ lexemes Nothing 0 bytes → last_serial a ls ≡ last_in a bytes
unfolding last_in
last_is a bytes ls l_is = ap (last_serial a) l_is
