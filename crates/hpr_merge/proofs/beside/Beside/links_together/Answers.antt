use Rattle.std.proofs.Common.{◌≡◌, ◌∙◌, ◌<◌, ℕ, Option, Some, List, All, length, slice_get, ap, sym, subst}
use Rattle.hpr_graph.specs.declared.link.Link.{Link}
use Rattle.hpr_slice.specs.Steps.{AreStepsWithin}
use Rattle.hpr_merge.specs.Added.{IsFirstAdded}
use Rattle.hpr_merge.specs.Beside.{Pair}
use Rattle.hpr_merge.specs.Words.{MarkEach, column}
use Rattle.hpr_merge.proofs.LeastLinks.{links_of}
use Rattle.hpr_merge.proofs.beside.Beside.links_together.Goals as goal

pub reach_words-requires-clause-steps : goal.reach_words-requires-clause-steps
reach_words-requires-clause-steps c =
    subst (λ (n : ℕ). AreStepsWithin n c.deref.result.now) (sym (ap length c.vertices-count.ensures.vertices)) (subst (AreStepsWithin (length c.self.inside.merged.now.vertices)) (sym c.deref.ensures.value) c.self.invariant.wide_within)

pub reach_words-requires-2-clause-steps : goal.reach_words-requires-2-clause-steps
reach_words-requires-2-clause-steps c =
    subst (λ (n : ℕ). AreStepsWithin n c.deref-2.result.now) (ap length c.self.invariant.beside.vertices ∙ sym (ap length c.vertices-count.ensures.vertices)) (subst (AreStepsWithin (length c.self.inside.variant.now.vertices)) (sym c.deref-2.ensures.value) c.self.invariant.narrow_within)

pub returns : goal.returns
returns c =
    let i = c.self.inside in
    let m = i.merged.now in
    let k = i.variant.now in
    let ns = c.args.numbers.now in
    let vertices = ap length c.vertices-count.ensures.vertices in
    let within = subst (λ (p : Pair). All (λ n. n < length p.merged.vertices) ns) (sym c.self.view_is) c.requires.within in
    let grown = subst (λ (xs : List (ℕ × ℕ)). MarkEach xs ns c.in_ok-grown.grown.items) c.deref.ensures.value c.in_ok-grown.ensures.marks in
    let own = subst (λ (xs : List (ℕ × ℕ)). MarkEach xs ns c.in_ok-own.own.items) c.deref-2.ensures.value c.in_ok-own.ensures.marks in
    links_of m k i.wide.items i.narrow.items c.args.self.now c.self.invariant c.self.view_is ns c.in_ok-grown.grown.items c.in_ok-own.own.items c.in_ok-links.links.items within (c.in_ok-grown.ensures.count ∙ vertices) (c.in_ok-own.ensures.count ∙ vertices)
    grown own c.in_ok-links.ensures.count
    (subst (λ (xs : List ℕ). (j : ℕ) (o : Option (ℕ × Link)) → slice_get c.in_ok-links.links.items j ≡ Some o → IsFirstAdded m k (column xs j) (column c.in_ok-own.own.items j) o) c.deref-3.ensures.value
    (subst (λ (ys : List ℕ). (j : ℕ) (o : Option (ℕ × Link)) → slice_get c.in_ok-links.links.items j ≡ Some o → IsFirstAdded m k (column c.deref-3.result.now j) (column ys j) o) c.deref-4.ensures.value c.in_ok-links.ensures.each))
