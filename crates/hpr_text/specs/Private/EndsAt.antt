-- Where an expression ends.
--
-- ends_at p t  == an expression that is read for p ends before the token t
use Rattle.std.specs.Prelude.{Bool, true, false}
use Rattle.hpr_terms.specs.declared.keyword.Keyword.TheVariants.{Then, Do}
use Rattle.hpr_terms.specs.declared.token.Sign.TheVariants.{Semicolon}
use Rattle.hpr_terms.specs.declared.token.Token.{Token}
use Rattle.hpr_terms.specs.declared.token.Token.TheVariants.{Word, Mark}
use Rattle.hpr_text.specs.declared.state.Purpose.{Purpose}
use Rattle.hpr_text.specs.declared.state.Purpose.TheVariants.{Assign, Test, Guard, Output, Store}

abbrev pub ends_at : Purpose → Token → Bool
ends_at (Assign t x) (Mark Semicolon) = true
ends_at (Test t) (Word Then) = true
ends_at (Guard t) (Word Do) = true
ends_at (Output t) (Mark Semicolon) = true
ends_at (Store t a i) (Mark Semicolon) = true
ends_at p t = false
