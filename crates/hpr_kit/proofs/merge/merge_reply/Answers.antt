use Rattle.std.proofs.Common.{◌∙◌, Bor, List, map, sym, ℕ}
use Rattle.std.proofs.lemmas.List.{length-map}
use Rattle.std.proofs.lemmas.Result.{err_from_is_err_and}
use Rattle.hpr_located.specs.Sources.{standing_of}
use Rattle.hpr_kit.specs.Merges.{IsMergeTold}
use Rattle.hpr_kit.specs.Private.Replies.{seen}
use Rattle.hpr_kit.proofs.LoadLemmas.{names}
use Rattle.hpr_kit.proofs.ManyGraphs.{all_made, halts_all}
use Rattle.hpr_kit.proofs.merge.merge_reply.Goals as goal

pub returns-in_err-graphs : goal.returns-in_err-graphs
returns-in_err-graphs c =
    let ps = c.args.loaded.programs.items in
    let e = err_from_is_err_and c.from_residual.result c.from_residual.ensures.1 in
    rw (e.1, e.2) (halts_all (names c.args.files.now) ps
    (λ gs a. IsMergeTold ps c.args.tries (map standing_of c.args.loaded.sources.items) a) c.in_err-graphs.field-0.0
    (rw c.as_slice.ensures.value at c.in_err-graphs.ensures.makes))

pub returns : goal.returns
returns c =
    let ps = c.args.loaded.programs.items in
    let ss = map standing_of c.args.loaded.sources.items in
    all_made (names c.args.files.now) ps c.in_ok-graphs.graphs.items (λ gs. IsMergeTold ps c.args.tries ss (seen c.in_ok-reply.reply)) (seen c.in_ok-reply.reply)
    (c.requires.programs ∙ sym (length-map c.args.files.now (λ (b : Bor (List ℕ)). b.now))) (rw c.as_slice.ensures.value at c.in_ok-graphs.ensures.makes)
    (c.in_ok-outcome.outcome, rw c.as_slice-2.ensures.value at c.in_ok-outcome.ensures.comes, c.in_ok-reply.ensures)
