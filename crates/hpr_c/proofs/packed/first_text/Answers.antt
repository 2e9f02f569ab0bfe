use Rattle.std.proofs.Common.{◌∙◌, ◌+◌, sym}
use Rattle.std.proofs.lemmas.List.{take_rest}
use Rattle.hpr_c.proofs.PackedLemmas.{is_first, no_zero, not_utf8}
use Rattle.hpr_c.proofs.packed.first_text.Goals as goal

pub returns-in_default-clause-none : goal.returns-in_default-clause-none
returns-in_default-clause-none c text rest first = no_zero c.args.bytes.now text rest (sym c.zero_at.ensures ∙ c.in_default.is) first

pub returns-in-Ok-clause-first : goal.returns-in-Ok-clause-first
returns-in-Ok-clause-first c =
    let at = sym c.zero_at.ensures ∙ c.in-Some.is in
    rw (take_rest c.args.bytes.now (c.in-Some.end + 1)) (is_first c.args.bytes.now c.in-Ok.text.now c.in-Some.end at c.in-Ok.ensures.cases.0 c.in-Ok.ensures.cases.1)

pub returns-in-Err-clause-none : goal.returns-in-Err-clause-none
returns-in-Err-clause-none c text rest first =
    let at = sym c.zero_at.ensures ∙ c.in-Some.is in
    not_utf8 c.args.bytes.now c.in-Some.end text rest at c.in-Err.ensures.cases.0 first
