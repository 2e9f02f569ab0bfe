use Rattle.std.proofs.Common.{◌≤◌, ◌-◌, ◌++◌, ℕ, List, Option, take, drop, sym, subst, arith}
use Rattle.std.proofs.lemmas.List.{take_all}
use Rattle.hpr_graph.specs.declared.link.Link.{Link}
use Rattle.hpr_merge.specs.Beside.{AreLeastLinks}
use Rattle.hpr_merge.proofs.LeastLinks.{links_none, links_append, taken_on}
use Rattle.hpr_merge.proofs.beside.Beside.links_by_words.Goals as goal

pub loop-start-init : goal.loop-start-init
loop-start-init c = record { within = omega arith; links = links_none c.args.self.now _ c.in_ok-links.ensures.items }

pub loop-start-preserved : goal.loop-start-preserved
loop-start-preserved c =
    let ns = c.args.numbers.now in
    let start = c.loop-start.start in
    let end = c.min-end.result in
    let least = c.min-end.ensures in
    let within = c.loop-start.invariant.within in
    let later : start ≤ end = omega (arith, least, within) in
    record {
      within = omega (arith, least);
      links =
          subst (λ (os : List (Option (ℕ × Link))). AreLeastLinks c.args.self.now (take end ns) os) (sym c.in_ok-append.ensures.items)
          (subst (λ (xs : List ℕ). AreLeastLinks c.args.self.now xs (c.loop-start.links.items ++ c.in_ok-some.some.items)) (taken_on ns start end later)
          (links_append c.args.self.now (take start ns) (take (end - start) (drop start ns)) c.loop-start.links.items c.in_ok-some.some.items c.loop-start.invariant.links c.in_ok-some.ensures));
    }

pub returns : goal.returns
returns c =
    subst (λ (xs : List ℕ). AreLeastLinks c.args.self.now xs c.loop-start.links.items) (take_all c.loop-start.start c.args.numbers.now c.loop-start-test.false) c.loop-start.invariant.links
