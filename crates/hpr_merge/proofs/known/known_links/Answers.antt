use Rattle.std.proofs.Common.{◌≡◌, ℕ, ◌+◌, ◌<◌, Option, Some, None, List, length, get_or, take, slice_get, sym, ap, ◌∙◌, subst}
use Rattle.std.proofs.lemmas.List.{length_push}
use Rattle.std.proofs.lemmas.Option.{slice_get-get_or}
use Rattle.hpr_graph.specs.declared.link.Link.{Link}
use Rattle.hpr_merge.specs.Known.{IsLinkOf}
use Rattle.hpr_merge.proofs.KnownNumbers.{link_is, links_more, links_all}
use Rattle.hpr_merge.proofs.known.known_links.Goals as goal

pub loop-number-preserved : goal.loop-number-preserved
loop-number-preserved c =
    let ns = c.args.numbers.now in
    let os = c.args.firsts.now in
    let i = c.loop-number.number-index in
    let n : ℕ = get_or ns i 0 in
    let within : n < length os = c.requires.within i 0 c.loop-number-test.true in
    let at : slice_get os n ≡ Some (get_or os n None) = slice_get-get_or os n None within in
    let one = link_is os c.args.unknown.now c.args.found.now n (get_or os n None) c.known_link-link.result at c.known_link-link.ensures.known
    c.known_link-link.ensures.found in
    let links = c.loop-number.links.items in
    let more = c.in_ok-push.ensures.items in
    let grown = length_push links c.known_link-link.result in
    let count = c.loop-number.invariant.count in
    record {
      count = ap length more ∙ grown ∙ ap (λ (k : ℕ). k + 1) count;
      each =
          subst (λ (xs : List (Option (ℕ × Link))). (j m : ℕ) (o : Option (ℕ × Link)) → slice_get (take (i + 1) ns) j ≡ Some m
          → slice_get xs j ≡ Some o → IsLinkOf os c.args.unknown.now c.args.found.now m o) (sym more)
          (links_more os c.args.unknown.now c.args.found.now ns i links c.known_link-link.result c.loop-number-test.true count
          c.loop-number.invariant.each one);
    }

pub returns-clause-each : goal.returns-clause-each
returns-clause-each c = links_all c.args.firsts.now c.args.unknown.now c.args.found.now c.args.numbers.now c.loop-number.number-index
    c.loop-number.links.items c.loop-number-test.false c.loop-number.invariant.each
