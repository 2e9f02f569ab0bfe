-- What `==` answers at issued numbers, at lists of names and at trees.
use Rattle.std.proofs.Common.{◌≡◌, ℕ, ◌==◌, ◌&&◌, Bool, true, List, [], ◌∷◌, ◌↔◌, IsTrue, refl, sym, ◌∙◌, arith, subst}
use Rattle.std.specs.Cmp.Lexicographic.{pointwise, same_text}
use Rattle.std.proofs.lemmas.Bool.{eqb-true, eq-eqb}
use Rattle.std.proofs.lemmas.Cmp.{nat_list_eq_equiv}
use Rattle.hpr_terms.proofs.Facts.{and_both}
use Rattle.hpr_syntax.specs.BodyOrder.{block_code}
use Rattle.hpr_syntax.specs.Private.BodyCode.{body_inj}
use Rattle.hpr_syntax.specs.Tree.{Tree}
use Rattle.hpr_syntax.specs.Comparisons.{same_pair, same_issued, same_block, same_names, same_tree}

both : {a b : Bool} → a ≡ true → b ≡ true → (a && b) ≡ true
both p q = λ i. p i && q i

issued_is : (i j : List (ℕ × ℕ)) → same_issued i j ≡ true → i ≡ j
issued_is [] [] h = refl
issued_is (p ∷ i) (q ∷ j) h =
    let s : (same_pair p q ≡ true) × (same_issued i j ≡ true) = and_both _ _ h in
    let r : ((p.0 == q.0) ≡ true) × ((p.1 == q.1) ≡ true) = and_both _ _ s.0 in
    let a : p.0 ≡ q.0 = eqb-true _ _ r.0 in
    let n : p.1 ≡ q.1 = eqb-true _ _ r.1 in
    let more : i ≡ j = issued_is i j s.1 in
    λ k. (a k, n k) ∷ more k
issued_is [] (q ∷ j) h = absurd cc
issued_is (p ∷ i) [] h = absurd cc

issued_self : (i : List (ℕ × ℕ)) → same_issued i i ≡ true
issued_self [] = refl
issued_self (p ∷ i) = both (both (eq-eqb p.0 p.0 refl) (eq-eqb p.1 p.1 refl)) (issued_self i)

names_are : (x y : List (List ℕ)) → same_names x y ≡ true → x ≡ y
names_are [] [] h = refl
names_are (a ∷ x) (b ∷ y) h =
    let s : (pointwise ◌==◌ a b ≡ true) × (same_names x y ≡ true) = and_both _ _ h in
    let e : a ≡ b = same_text a b (sym s.0) in
    let more : x ≡ y = names_are x y s.1 in
    λ k. e k ∷ more k
names_are [] (b ∷ y) h = absurd cc
names_are (a ∷ x) [] h = absurd cc

names_self : (x : List (List ℕ)) → same_names x x ≡ true
names_self [] = refl
names_self (a ∷ x) = both (nat_list_eq_equiv.refl a) (names_self x)

tree_is : (a b : Tree) → same_tree a b ≡ true → a ≡ b
tree_is a b h =
    let s : (same_issued a.issued b.issued ≡ true) × ((same_block a.body b.body && same_names a.finals b.finals) ≡ true) = and_both _ _ h in
    let r : (same_block a.body b.body ≡ true) × (same_names a.finals b.finals ≡ true) = and_both _ _ s.1 in
    let i : a.issued ≡ b.issued = issued_is a.issued b.issued s.0 in
    let c : a.body ≡ b.body = (body_inj a.body b.body [] [] (same_text _ _ (sym r.0))).0 in
    let f : a.finals ≡ b.finals = names_are a.finals b.finals r.1 in
    λ k. record { issued = i k; body = c k; finals = f k }

tree_self : (a : Tree) → same_tree a a ≡ true
tree_self a = both (issued_self a.issued) (both (nat_list_eq_equiv.refl (block_code a.body)) (names_self a.finals))

pub tree_equal : (a b : Tree) (r : Bool) → r ≡ same_tree a b → IsTrue r ↔ (a ≡ b)
tree_equal a b r is = (
  (λ p. let t : same_tree a b ≡ true = grind (arith, is, p) in tree_is a b t),
  (λ p. let t : same_tree a b ≡ true = subst (λ x. same_tree a x ≡ true) p (tree_self a) in let v : r ≡ true = is ∙ t in grind arith),
)
