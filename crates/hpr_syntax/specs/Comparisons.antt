-- How issued numbers and programs compare: by their parts in order.
--
-- same_pair p q     == the two pairs have the same author and number
-- pair_cmp p q      == by author, and then by number
-- same_issued i j   == the two lists have the same pairs
-- issued_cmp i j    == by the first pairs that differ
-- same_block a b    == the two blocks have the same code
-- block_cmp a b     == by their codes
-- same_names x y    == the two lists have the same names
-- names_cmp x y     == by the first names that differ
-- same_tree a b     == the two trees have the same issued numbers, body and final names
-- tree_cmp a b      == by issued numbers, then by body, then by final names
use Rattle.std.specs.Prelude.{◌≡◌, ℕ, Bool, ◌==◌, List}
use Rattle.std.proofs.Common.{rules}
use Rattle.std.specs.declared.cmp.Ordering.{Ordering}
use Rattle.std.specs.Ordering.{nat_cmp, on, then_cmp, eq_of_both, eq_by_cmp, as_partial_cmp}
use Rattle.std.specs.Cmp.{IsTotalOrder, IsPartialOrder, IsEquivalence, IsPartialEquivalence, partial_equiv_from_equiv, both_tied, unsigned_ties, po}
use Rattle.std.specs.Cmp.Rules.{comparing}
use Rattle.std.specs.Cmp.Lexicographic.{pointwise, slice_cmp, lists_ties, texts_ties}
use Rattle.hpr_syntax.specs.Body.{Body}
use Rattle.hpr_syntax.specs.BodyOrder.{block_code}
use Rattle.hpr_syntax.specs.Tree.{Tree}

abbrev pub same_pair : ℕ × ℕ → ℕ × ℕ → Bool
same_pair = eq_of_both (on (λ p. p.0) ◌==◌) (on (λ p. p.1) ◌==◌)

abbrev pub pair_cmp : ℕ × ℕ → ℕ × ℕ → Ordering
pair_cmp = then_cmp (on (λ p. p.0) nat_cmp) (on (λ p. p.1) nat_cmp)

abbrev pub same_issued : List (ℕ × ℕ) → List (ℕ × ℕ) → Bool
same_issued = pointwise same_pair

abbrev pub issued_cmp : List (ℕ × ℕ) → List (ℕ × ℕ) → Ordering
issued_cmp = slice_cmp pair_cmp

abbrev pub same_block : Body → Body → Bool
same_block = on block_code (pointwise ◌==◌)

abbrev pub block_cmp : Body → Body → Ordering
block_cmp = on block_code (slice_cmp nat_cmp)

abbrev pub same_names : List (List ℕ) → List (List ℕ) → Bool
same_names = pointwise (pointwise ◌==◌)

abbrev pub names_cmp : List (List ℕ) → List (List ℕ) → Ordering
names_cmp = slice_cmp (slice_cmp nat_cmp)

abbrev pub same_tree : Tree → Tree → Bool
same_tree = eq_of_both (on (λ t. t.issued) same_issued) (eq_of_both (on (λ t. t.body) same_block) (on (λ t. t.finals) same_names))

abbrev pub tree_cmp : Tree → Tree → Ordering
tree_cmp = then_cmp (on (λ t. t.issued) issued_cmp) (then_cmp (on (λ t. t.body) block_cmp) (on (λ t. t.finals) names_cmp))

pair_ties : (p q : ℕ × ℕ) → same_pair p q ≡ eq_by_cmp pair_cmp p q
pair_ties p q = both_tied _ _ (nat_cmp p.0 q.0) (nat_cmp p.1 q.1) (unsigned_ties p.0 q.0) (unsigned_ties p.1 q.1)

pub issued_ties : (i j : List (ℕ × ℕ)) → same_issued i j ≡ eq_by_cmp issued_cmp i j
issued_ties = lists_ties pair_cmp pair_ties

pub issued_total : IsTotalOrder issued_cmp
issued_total = search (comparing, rules)

pub issued_po : IsPartialOrder same_issued (as_partial_cmp issued_cmp)
issued_po = po issued_total issued_ties

names_ties : (x y : List (List ℕ)) → same_names x y ≡ eq_by_cmp names_cmp x y
names_ties = lists_ties (slice_cmp nat_cmp) texts_ties

pub tree_ties : (a b : Tree) → same_tree a b ≡ eq_by_cmp tree_cmp a b
tree_ties a b =
    both_tied _ _ (issued_cmp a.issued b.issued) (then_cmp (on (λ t. t.body) block_cmp) (on (λ t. t.finals) names_cmp) a b) (issued_ties a.issued b.issued)
    (both_tied _ _ (block_cmp a.body b.body) (names_cmp a.finals b.finals) (texts_ties (block_code a.body) (block_code b.body)) (names_ties a.finals b.finals))

pub tree_total : IsTotalOrder tree_cmp
tree_total = search (comparing, rules) depth 9

pub tree_equiv : IsEquivalence same_tree
tree_equiv = search (comparing, rules) depth 9

pub tree_per : IsPartialEquivalence same_tree
tree_per = partial_equiv_from_equiv tree_equiv

pub tree_po : IsPartialOrder same_tree (as_partial_cmp tree_cmp)
tree_po = po tree_total tree_ties
