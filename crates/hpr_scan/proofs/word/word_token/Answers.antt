use Rattle.std.proofs.Common.{List, ℕ, refl, subst}
use Rattle.hpr_terms.specs.Names.{IsName}
use Rattle.hpr_terms.specs.Keywords.{keyword_of}
use Rattle.hpr_scan.specs.Words.{ReadsWord}
use Rattle.hpr_scan.specs.Private.Advance.{keyword_or_number}
use Rattle.hpr_scan.proofs.Words.{unnamed_word}
use Rattle.hpr_scan.proofs.word.word_token.Goals as goal

pub returns-in-Err-NotAName : goal.returns-in-Err-NotAName
returns-in-Err-NotAName c =
    let refused = rw c.in-Err-NotAName.field-0-is at c.in-Err-NotAName.ensures.not_a_name in
    let unnamed : ¬ IsName c.args.word.now = refused.0 refl in
    rw (unnamed_word c.args.word.now unnamed)
    (subst (λ (w : List ℕ). ReadsWord (keyword_or_number (keyword_of w) w) c.keyword_or_number.result) c.as_bytes-in-Err-NotAName.ensures.value c.keyword_or_number.ensures)
