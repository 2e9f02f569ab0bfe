-- What is left of a program is a program.
use Rattle.std.proofs.Common.{◌≡◌, ℕ, zero, suc, ◌≤◌, Bool, true, false, ◌||◌, nat_lt, List, [], ◌∷◌, Option, None, All, refl, sym, subst, arith}
use Rattle.std.specs.List.{list_any, AllByRecursion}
use Rattle.std.proofs.lemmas.List.Elements.{All-from_recursion, recursion_from_All}
use Rattle.std.specs.Option.{option_or}
use Rattle.std.specs.Str.{bytes_eq}
use Rattle.hpr_terms.specs.declared.tag.Tag.{Tag}
use Rattle.hpr_terms.specs.declared.limits.TheConstants.{MAX_LEVELS, MAX_PARTS}
use Rattle.hpr_terms.specs.Names.{IsVariable}
use Rattle.hpr_terms.proofs.Facts.{if_none}
use Rattle.hpr_syntax.specs.declared.rows.Content.{Content}
use Rattle.hpr_syntax.specs.Action.{assigns, writes, stores}
use Rattle.hpr_syntax.specs.Body.{Body, done, action, branch, loop, part_count}
use Rattle.hpr_syntax.specs.Parts.{same_tag, tags_of}
use Rattle.hpr_syntax.specs.Issued.{Issued, IsIssued}
use Rattle.hpr_syntax.specs.Proper.{IsProperBody, IsProperPair}
use Rattle.hpr_syntax.specs.Shape.{IsProgram, first_repeated, is_unissued, first_unissued, first_deep, first_where, too_many, says_large, is_wrong}
use Rattle.hpr_syntax.specs.declared.shape.ShapeError.TheVariants.{TooManyParts}
use Rattle.std.proofs.lemmas.Bool.{ltb-false, le-ltb}
use Rattle.hpr_syntax.specs.Tree.{Tree}
use Rattle.hpr_syntax.proofs.NoRefusal.{HasNoRefusal, no_refusal, none_in_action, none_in_branch, none_in_loop, or_none, shaped}
use Rattle.hpr_graph.specs.declared.vertex.Vertex.{Vertex}
use Rattle.hpr_prune.specs.Programs.{BlockLeft, ended, action_kept, action_out, branch_kept, branch_out, loop_kept, loop_out, NamesLeft, none, name_kept, name_out, IsPruned}

-- ys are some of the elements of xs, in their order
data IsSome {X : Type 0} : List X → List X → Type 0 where
  nil : IsSome [] []
  take : {x : X} {xs ys : List X} → IsSome xs ys → IsSome (x ∷ xs) (x ∷ ys)
  skip : {x : X} {xs ys : List X} → IsSome xs ys → IsSome (x ∷ xs) ys

all_of : {X : Type 0} (xs : List X) → IsSome xs xs
all_of [] = nil
all_of (x ∷ xs) = take (all_of xs)

-- an earlier one that is the same
any_or : (a b c : Bool) → (a || b) ≡ false → (b ≡ false → c ≡ false) → (a || c) ≡ false
any_or true b c e f = absurd cc
any_or false b c e f = f e

any_second : (a b : Bool) → (a || b) ≡ false → b ≡ false
any_second true b e = absurd cc
any_second false b e = e

some_any : {X : Type 0} (f : X → Bool) {xs ys : List X} → IsSome xs ys → list_any f xs ≡ false → list_any f ys ≡ false
some_any f nil e = e
some_any f (take {x = x} {xs = xs} {ys = ys} s) e = any_or (f x) (list_any f xs) (list_any f ys) e (some_any f s)
some_any f (skip {x = x} {xs = xs} s) e = some_any f s (any_second (f x) (list_any f xs) e)

none_repeated : {X : Type 0} (same : X → X → Bool) (before before' : List X) {xs ys : List X} → IsSome before before' → IsSome xs ys
    → first_repeated same before xs ≡ None → first_repeated same before' ys ≡ None
none_repeated same before before' b nil e = e
none_repeated same before before' b (take {x = x} {xs = xs} {ys = ys} s) e =
    let g = if_none (list_any (same x) before) x (first_repeated same (x ∷ before) xs) e in
    let c = some_any (same x) b g.0 in
    let r = none_repeated same (x ∷ before) (x ∷ before') (take b) s g.1 in
    rw (c, r) refl
none_repeated same before before' b (skip {x = x} {xs = xs} s) e =
    let g = if_none (list_any (same x) before) x (first_repeated same (x ∷ before) xs) e in
    none_repeated same (x ∷ before) before' (skip b) s g.1

none_unissued : (issued : Issued) {xs ys : List Tag} → IsSome xs ys → first_unissued issued xs ≡ None → first_unissued issued ys ≡ None
none_unissued issued nil e = e
none_unissued issued (take {x = t} {xs = xs} {ys = ys} s) e =
    let g = if_none (is_unissued issued t) t (first_unissued issued xs) e in
    let r = none_unissued issued s g.1 in rw (g.0, r) refl
none_unissued issued (skip {x = t} {xs = xs} s) e = none_unissued issued s (if_none (is_unissued issued t) t (first_unissued issued xs) e).1

module _ (V : Vertex → Type 0) where
  skip_all : (B : Body) {xs ys : List Tag} → IsSome xs ys → IsSome (tags_of B xs) ys
  skip_all done s = s
  skip_all (action t d k) s = skip (skip_all k s)
  skip_all (branch t e a b k) s = skip (skip_all a (skip_all b (skip_all k s)))
  skip_all (loop t e b k) s = skip (skip_all b (skip_all k s))

  tags_left : {B B' : Body} → BlockLeft V B B' → {xs ys : List Tag} → IsSome xs ys → IsSome (tags_of B xs) (tags_of B' ys)
  tags_left ended s = s
  tags_left (action_kept h r) s = take (tags_left r s)
  tags_left (action_out h r) s = skip (tags_left r s)
  tags_left (branch_kept h r q k) s = take (tags_left r (tags_left q (tags_left k s)))
  tags_left (branch_out {a = a} {b = b} h k) s = skip (skip_all a (skip_all b (tags_left k s)))
  tags_left (loop_kept h r k) s = take (tags_left r (tags_left k s))
  tags_left (loop_out {b = b} h k) s = skip (skip_all b (tags_left k s))

  both_none : {X : Type 0} (a b : Option X) → a ≡ None → b ≡ None → option_or a b ≡ None
  both_none a b e f = rw (e, f) refl

  none_deep : {B B' : Body} → BlockLeft V B B' → (n : ℕ) → first_deep n B ≡ None → first_deep n B' ≡ None
  none_deep ended n e = e
  none_deep (action_kept h r) zero e = absurd cc
  none_deep (action_out h r) zero e = absurd cc
  none_deep (branch_kept h r q k) zero e = absurd cc
  none_deep (branch_out h k) zero e = absurd cc
  none_deep (loop_kept h r k) zero e = absurd cc
  none_deep (loop_out h k) zero e = absurd cc
  none_deep (action_kept h r) (suc n) e = none_deep r (suc n) e
  none_deep (action_out h r) (suc n) e = none_deep r (suc n) e
  none_deep (branch_kept {a = a} {a' = a'} {b = b} {b' = b'} {k = k} {k' = k'} h r q l) (suc n) e =
      let x = or_none (first_deep n a) (option_or (first_deep n b) (first_deep (suc n) k)) e in
      let y = or_none (first_deep n b) (first_deep (suc n) k) x.1 in
      both_none (first_deep n a') (option_or (first_deep n b') (first_deep (suc n) k')) (none_deep r n x.0)
      (both_none (first_deep n b') (first_deep (suc n) k') (none_deep q n y.0) (none_deep l (suc n) y.1))
  none_deep (branch_out {a = a} {b = b} {k = k} h l) (suc n) e =
      none_deep l (suc n) (or_none (first_deep n b) (first_deep (suc n) k) (or_none (first_deep n a) (option_or (first_deep n b) (first_deep (suc n) k)) e).1).1
  none_deep (loop_kept {b = b} {b' = b'} {k = k} {k' = k'} h r l) (suc n) e =
      let x = or_none (first_deep n b) (first_deep (suc n) k) e in both_none (first_deep n b') (first_deep (suc n) k') (none_deep r n x.0) (none_deep l (suc n) x.1)
  none_deep (loop_out {b = b} {k = k} h l) (suc n) e = none_deep l (suc n) (or_none (first_deep n b) (first_deep (suc n) k) e).1

  module _ (test : Content → Bool) where
    none_where : {B B' : Body} → BlockLeft V B B' → first_where test B ≡ None → first_where test B' ≡ None
    none_where ended e = e
    none_where (action_kept {t = t} {d = d} {k = k} h r) e = let g = none_in_action test t d k e in let s = none_where r g.1 in rw (g.0, s) refl
    none_where (action_out {t = t} {d = d} {k = k} h r) e = none_where r (none_in_action test t d k e).1
    none_where (branch_kept {t = t} {e = x} {a = a} {b = b} {k = k} h r q l) e =
        let g = none_in_branch test t x a b k e in
        let ra = none_where r g.1 in let rb = none_where q g.2 in let rk = none_where l g.3 in
        rw (g.0, ra, rb, rk) refl
    none_where (branch_out {t = t} {e = x} {a = a} {b = b} {k = k} h l) e = none_where l (none_in_branch test t x a b k e).3
    none_where (loop_kept {t = t} {e = x} {b = b} {k = k} h r l) e =
        let g = none_in_loop test t x b k e in
        let rb = none_where r g.1 in let rk = none_where l g.2 in
        rw (g.0, rb, rk) refl
    none_where (loop_out {t = t} {e = x} {b = b} {k = k} h l) e = none_where l (none_in_loop test t x b k e).2

  no_more_parts : {B B' : Body} → BlockLeft V B B' → part_count B' ≤ part_count B
  no_more_parts ended = omega arith
  no_more_parts (action_kept h r) = let x = no_more_parts r in omega (arith, x)
  no_more_parts (action_out h r) = let x = no_more_parts r in omega (arith, x)
  no_more_parts (branch_kept h r q l) = let x = no_more_parts r in let y = no_more_parts q in let z = no_more_parts l in omega (arith, x, y, z)
  no_more_parts (branch_out {a = a} {b = b} h l) = let z = no_more_parts l in omega (arith, z)
  no_more_parts (loop_kept h r l) = let x = no_more_parts r in let z = no_more_parts l in omega (arith, x, z)
  no_more_parts (loop_out {b = b} h l) = let z = no_more_parts l in omega (arith, z)

  still_few : (m n : ℕ) → m ≤ n → too_many n ≡ None → too_many m ≡ None
  still_few m n l e =
      let low = ltb-false MAX_PARTS n (if_none (nat_lt MAX_PARTS n) (TooManyParts n) None e).0 in
      let still : nat_lt MAX_PARTS m ≡ false = le-ltb MAX_PARTS m (omega (arith, low, l)) in
      rw still refl

  proper_left : {B B' : Body} → BlockLeft V B B' → IsProperBody B → IsProperBody B'
  proper_left ended h = h
  proper_left (action_kept {d = assigns x e} v r) h = (h.0, h.1, h.2, proper_left r h.3)
  proper_left (action_kept {d = writes x e} v r) h = (h.0, h.1, h.2, proper_left r h.3)
  proper_left (action_kept {d = stores x i e} v r) h = (h.0, h.1, h.2, h.3, proper_left r h.4)
  proper_left (action_out {d = assigns x e} v r) h = proper_left r h.3
  proper_left (action_out {d = writes x e} v r) h = proper_left r h.3
  proper_left (action_out {d = stores x i e} v r) h = proper_left r h.4
  proper_left (branch_kept v r q l) h = (h.0, h.1, proper_left r h.2, proper_left q h.3, proper_left l h.4)
  proper_left (branch_out v l) h = proper_left l h.4
  proper_left (loop_kept v r l) h = (h.0, h.1, proper_left r h.2, proper_left l h.3)
  proper_left (loop_out v l) h = proper_left l h.3

  names_some : {xs ys : List (List ℕ)} → NamesLeft V xs ys → IsSome xs ys
  names_some none = nil
  names_some (name_kept v r) = take (names_some r)
  names_some (name_out v r) = skip (names_some r)

  names_all : {xs ys : List (List ℕ)} → NamesLeft V xs ys → AllByRecursion IsVariable xs → AllByRecursion IsVariable ys
  names_all none h = h
  names_all (name_kept v r) h = (h.0, names_all r h.1)
  names_all (name_out v r) h = names_all r h.1

pub is_program : (V : Vertex → Type 0) (p q : Tree) → IsProgram p → IsPruned V p q → IsProgram q
is_program V p q ip pr = record {
  proper = record {
    ascending = subst (λ (i : Issued). IsIssued i) (sym pr.issued) ip.proper.ascending;
    numbers = subst (λ (i : Issued). All IsProperPair i) (sym pr.issued) ip.proper.numbers;
    body = proper_left V pr.body ip.proper.body;
    finals = All-from_recursion IsVariable q.finals (names_all V pr.finals (recursion_from_All IsVariable p.finals ip.proper.finals));
  };
  shape = shaped q (record {
    tags = none_repeated same_tag [] [] nil (tags_left V pr.body nil) h.tags;
    issued = subst (λ (i : Issued). first_unissued i (tags_of q.body []) ≡ None) (sym pr.issued) (none_unissued p.issued (tags_left V pr.body nil) h.issued);
    levels = none_deep V pr.body MAX_LEVELS h.levels;
    expressions = none_where V says_large pr.body h.expressions;
    variables = none_where V is_wrong pr.body h.variables;
    parts = still_few V (part_count q.body) (part_count p.body) (no_more_parts V pr.body) h.parts;
    names = none_repeated bytes_eq [] [] nil (names_some V pr.finals) h.names;
  });
}
  where
    h : HasNoRefusal p
    h = no_refusal p ip.shape
