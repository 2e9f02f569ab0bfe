-- What vertices leave of a program is one program, and it can't be refuted that there is one.
use Rattle.std.proofs.Common.{◌≡◌, ◌∙◌, ℕ, List, [], ◌∷◌, refl, sym, ap, ap₂}
use Rattle.hpr_syntax.specs.Body.{Body, done, action, branch, loop}
use Rattle.hpr_syntax.specs.Tree.{Tree}
use Rattle.hpr_graph.specs.declared.vertex.Vertex.{Vertex}
use Rattle.hpr_prune.specs.Programs.{BlockLeft, ended, action_kept, action_out, branch_kept, branch_out, loop_kept, loop_out, NamesLeft, none, name_kept, name_out, IsPruned}

module _ (V : Vertex → Type 0) where
  one_block : {B x y : Body} → BlockLeft V B x → BlockLeft V B y → x ≡ y
  one_block ended ended = refl
  one_block (action_kept {t = t} {d = d} h r) (action_kept g q) = ap (action t d) (one_block r q)
  one_block (action_kept h r) (action_out g q) = absurd (g h)
  one_block (action_out h r) (action_kept g q) = absurd (h g)
  one_block (action_out h r) (action_out g q) = one_block r q
  one_block (branch_kept {t = t} {e = e} h a b k) (branch_kept g c d l) =
      let yes = one_block a c in
      let no = one_block b d in
      let rest = one_block k l in
      λ i. branch t e (yes i) (no i) (rest i)
  one_block (branch_kept h a b k) (branch_out g l) = absurd (g h)
  one_block (branch_out h k) (branch_kept g c d l) = absurd (h g)
  one_block (branch_out h k) (branch_out g l) = one_block k l
  one_block (loop_kept {t = t} {e = e} h b k) (loop_kept g d l) = ap₂ (loop t e) (one_block b d) (one_block k l)
  one_block (loop_kept h b k) (loop_out g l) = absurd (g h)
  one_block (loop_out h k) (loop_kept g d l) = absurd (h g)
  one_block (loop_out h k) (loop_out g l) = one_block k l

  one_list : {xs ys zs : List (List ℕ)} → NamesLeft V xs ys → NamesLeft V xs zs → ys ≡ zs
  one_list none none = refl
  one_list (name_kept {x = x} h r) (name_kept g q) = ap (λ ns. x ∷ ns) (one_list r q)
  one_list (name_kept h r) (name_out g q) = absurd (g h)
  one_list (name_out h r) (name_kept g q) = absurd (h g)
  one_list (name_out h r) (name_out g q) = one_list r q

  pub one_pruned : (p x y : Tree) → IsPruned V p x → IsPruned V p y → x ≡ y
  one_pruned p x y h g =
      let issued = h.issued ∙ sym g.issued in
      let body = one_block h.body g.body in
      let finals = one_list h.finals g.finals in
      λ i. record { issued = issued i; body = body i; finals = finals i }

  -- for each part and each name it is so that its vertex is in V, or it isn't
  some_block : (B : Body) → ¬ (¬ ((left : Body) × BlockLeft V B left))
  some_block done n = n (done, ended)
  some_block (action t d k) n =
      some_block k (λ s. n (s.0, action_out (λ v. n (action t d s.0, action_kept v s.1)) s.1))
  some_block (branch t e a b k) n =
      some_block a (λ x. some_block b (λ y. some_block k (λ s. n (s.0, branch_out (λ v. n (branch t e x.0 y.0 s.0, branch_kept v x.1 y.1 s.1)) s.1))))
  some_block (loop t e b k) n =
      some_block b (λ y. some_block k (λ s. n (s.0, loop_out (λ v. n (loop t e y.0 s.0, loop_kept v y.1 s.1)) s.1)))

  some_list : (xs : List (List ℕ)) → ¬ (¬ ((ys : List (List ℕ)) × NamesLeft V xs ys))
  some_list [] n = n ([], none)
  some_list (x ∷ xs) n = some_list xs (λ s. n (s.0, name_out (λ v. n (x ∷ s.0, name_kept v s.1)) s.1))

  pub some_pruned : (p : Tree) → ¬ (¬ ((q : Tree) × IsPruned V p q))
  some_pruned p n =
      some_block p.body (λ b. some_list p.finals (λ f. n (record { issued = p.issued; body = b.0; finals = f.0 }, record { issued = refl; body = b.1; finals = f.1 })))

  -- what is left by other vertices that are the same ones
  module _ (W : Vertex → Type 0) (to : (v : Vertex) → V v → W v) (back : (v : Vertex) → W v → V v) where
    same_block : {B x : Body} → BlockLeft V B x → BlockLeft W B x
    same_block ended = ended
    same_block (action_kept h r) = action_kept (to _ h) (same_block r)
    same_block (action_out h r) = action_out (λ w. h (back _ w)) (same_block r)
    same_block (branch_kept h a b k) = branch_kept (to _ h) (same_block a) (same_block b) (same_block k)
    same_block (branch_out h k) = branch_out (λ w. h (back _ w)) (same_block k)
    same_block (loop_kept h b k) = loop_kept (to _ h) (same_block b) (same_block k)
    same_block (loop_out h k) = loop_out (λ w. h (back _ w)) (same_block k)

    same_list : {xs ys : List (List ℕ)} → NamesLeft V xs ys → NamesLeft W xs ys
    same_list none = none
    same_list (name_kept h r) = name_kept (to _ h) (same_list r)
    same_list (name_out h r) = name_out (λ w. h (back _ w)) (same_list r)

    pub same_pruned : (p q : Tree) → IsPruned V p q → IsPruned W p q
    same_pruned p q h = record { issued = h.issued; body = same_block h.body; finals = same_list h.finals }
