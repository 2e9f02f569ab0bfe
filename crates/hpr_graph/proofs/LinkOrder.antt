-- The order of links, and what a search in ascending links finds.
use Rattle.std.proofs.Common.{◌≡◌, ℕ, Bool, true, false, ◌↔◌, Result, List, length, Contains, IsTrue, refl, ap, ◌∙◌}
use Rattle.std.specs.Result.{is_ok}
use Rattle.std.specs.declared.cmp.Ordering.{Ordering}
use Rattle.std.specs.declared.cmp.Ordering.TheVariants.{Equal}
use Rattle.std.specs.Ordering.{nat_cmp, bool_cmp, is_eq}
use Rattle.std.specs.Cmp.{unsigned_ties}
use Rattle.std.specs.List.Sorted.{IsSorted, IsBinarySearchResult, IsSearchInRange}
use Rattle.std.proofs.lemmas.Bool.{eqb-true}
use Rattle.hpr_graph.specs.declared.link.LinkKind.{LinkKind}
use Rattle.hpr_graph.specs.declared.link.LinkKind.TheVariants.{Control, Independent, Carried, Order}
use Rattle.hpr_graph.specs.declared.link.Link.{Link}
use Rattle.hpr_graph.specs.contracts.link.LinkKindOrd.TheImpl as kinds
use Rattle.hpr_graph.specs.contracts.link.LinkOrd.TheImpl as links
use Rattle.hpr_graph.specs.contracts.link.LinkOrd.TheImpl.Laws.{total-law}
use Rattle.hpr_graph.proofs.Searches.{found_sorted}
use Rattle.hpr_graph.proofs.VertexOrder.{then_equal}

abbrev pub link_cmp : Link → Link → Ordering
link_cmp = (links.ghosts).cmp

nat_equal : (a b : ℕ) → nat_cmp a b ≡ Equal → a ≡ b
nat_equal a b e = eqb-true a b (unsigned_ties a b ∙ ap is_eq e)

pub bool_equal : (a b : Bool) → bool_cmp a b ≡ Equal → a ≡ b
bool_equal true true e = refl
bool_equal false false e = refl
bool_equal true false e = absurd cc
bool_equal false true e = absurd cc

kind_equal : (k m : LinkKind) → (kinds.ghosts).cmp k m ≡ Equal → k ≡ m
kind_equal (Control a) (Control b) e = ap Control (bool_equal a b e)
kind_equal Independent Independent e = refl
kind_equal (Carried w) (Carried x) e = ap Carried (nat_equal w x e)
kind_equal (Order u) (Order v) e = ap Order (nat_equal u v e)
kind_equal _ _ e = absurd cc

pub link_equal : (l m : Link) → link_cmp l m ≡ Equal → l ≡ m
link_equal l m e =
    let (from, kind) = then_equal (nat_cmp l.from m.from) ((kinds.ghosts).cmp l.kind m.kind) e in
    let a : l.from ≡ m.from = nat_equal l.from m.from from in
    let b : l.kind ≡ m.kind = kind_equal l.kind m.kind kind in
    (λ i. record { from = a i; kind = b i })

pub search_found : (xs : List Link) (l : Link) (r : Result ℕ ℕ) → IsSorted link_cmp xs → IsSearchInRange r (length xs) → IsBinarySearchResult (λ y. link_cmp y l) xs r → IsTrue (is_ok r) ↔ Contains xs l
search_found xs l r up = found_sorted link_cmp total-law xs link_equal l up r
