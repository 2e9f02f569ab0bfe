-- Which bytes spell which tree.
--
-- Spells form bytes tree == the bytes are tokens that spell the tree in this form
use Rattle.std.specs.Prelude.{ℕ, false, List}
use Rattle.hpr_terms.specs.declared.token.Token.{Token}
use Rattle.hpr_terms.specs.Tokens.{Text}
use Rattle.hpr_syntax.specs.Grammar.{Form, SpellsProgram}
use Rattle.hpr_syntax.specs.Tree.{Tree}

pub record Spells (form : Form) (bytes : List ℕ) (tree : Tree) : Type 0 where
  pub tokens : List Token
  pub text : Text false bytes tokens
  pub program : SpellsProgram form tokens tree
