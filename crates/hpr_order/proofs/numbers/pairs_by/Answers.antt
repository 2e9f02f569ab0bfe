use Rattle.std.proofs.Common.{◌≡◌, ◌↔◌, ◌⊎◌, ℕ, sym, ap, subst, get_or, slice_get, Some, List, [], Contains, arith}
use Rattle.std.proofs.lemmas.Option.{slice_get-get_or}
use Rattle.hpr_graph.specs.declared.link.Link.{Link}
use Rattle.hpr_graph.specs.Numbered.{row_items, row_of}
use Rattle.hpr_order.specs.Numbers.{IsAskedBy}
use Rattle.hpr_order.proofs.Marked.{asked_all, part_within}
use Rattle.hpr_order.proofs.Steps.{pairs_more}
use Rattle.hpr_order.proofs.numbers.pairs_by.Goals as goal

none_in : (p : ℕ × ℕ) → ¬ Contains [] p
none_in p (i, l, e) = omega (arith, l)

pub loop-place-preserved : goal.loop-place-preserved
loop-place-preserved c =
    let n : ℕ = get_or c.args.numbers.now c.loop-place.place 0 in
    let here : slice_get c.args.numbers.now c.loop-place.place ≡ Some n = slice_get-get_or c.args.numbers.now c.loop-place.place 0 c.loop-place-test.true in
    let row : row_of c.args.graph.now n ≡ c.edges_into.result.now = ap row_items c.edges_into.ensures.row in
    let Q : ℕ → ℕ → Type 0 = λ m s. IsAskedBy c.args.places.now (row_of c.args.graph.now m) s in
    pairs_more Q c.args.numbers.now c.loop-place.place n c.loop-place.pairs.items c.add_pairs.new.pairs.items here c.loop-place.invariant
    (λ s t. subst (λ (r : List Link). Contains c.add_pairs.new.pairs.items (s, t) ↔ (Contains c.loop-place.pairs.items (s, t) ⊎ ((t ≡ c.loop-place.place) × IsAskedBy c.args.places.now r s))) (sym row) (c.in_ok-add_pairs.ensures s t))

pub returns : goal.returns
returns c = λ items at.
    asked_all c.args.graph.now c.requires.numbered c.args.numbers.now c.requires.numbers c.args.places.now c.requires.places items at
    c.loop-place.pairs.items c.loop-place.place c.loop-place-test.false c.loop-place.invariant

pub loop-place-init : goal.loop-place-init
loop-place-init c = λ s t. (
  λ h. absurd (none_in (s, t) (subst (λ (ps : List (ℕ × ℕ)). Contains ps (s, t)) c.new-pairs.ensures.items h)),
  λ h. absurd (omega (arith, h.0)),
)

pub edges_into-requires : goal.edges_into-requires
edges_into-requires c = part_within c.args.graph.now c.args.numbers.now c.requires.numbers c.loop-place.place 0 c.loop-place-test.true
