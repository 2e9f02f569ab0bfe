-- A block without what isn't kept: what is left says what it said and stands as it stood.
use Rattle.std.proofs.Common.{◌≡◌, Bool, true, false, List, [], ◌∷◌, ◌++◌, Some, None, refl, sym, subst, inl, inr}
use Rattle.hpr_terms.specs.declared.tag.Tag.{Tag}
use Rattle.hpr_terms.specs.declared.expr.Expr.{Expr}
use Rattle.hpr_syntax.specs.declared.rows.Content.{Content}
use Rattle.hpr_syntax.specs.declared.rows.Content.TheVariants.{If, While}
use Rattle.hpr_syntax.specs.Action.{Action}
use Rattle.hpr_syntax.specs.Body.{Body, done, action, branch, loop}
use Rattle.hpr_syntax.specs.Rows.{content_by, Parent}
use Rattle.hpr_syntax.specs.Skeleton.{nil, at, Distinct, skeleton}
use Rattle.hpr_syntax.specs.Nests.{Standing, StandsAs, StandsAsIn, Says}
use Rattle.hpr_graph.specs.declared.vertex.Vertex.{Vertex}
use Rattle.hpr_graph.specs.declared.vertex.Vertex.TheVariants.{Part}
use Rattle.hpr_paths.proofs.Says.{standing_in, says_stands, says_one, says_of_standing}
use Rattle.hpr_prune.specs.Pruned.{Pruned, empty, act_kept, act_out, fork_kept, fork_out, round_kept, round_out}
use Rattle.hpr_prune.specs.Programs.{BlockLeft, ended, action_kept, action_out, branch_kept, branch_out, loop_kept, loop_out}
use Rattle.hpr_prune.proofs.Stand.{stands_down}

-- a block without the parts that aren't kept, in which nothing is kept
pub data Cut (Keeps : Tag → Type 0) : Body → Body → Type 0 where
  end : Cut Keeps done done
  action_in : {t : Tag} {d : Action} {k k' : Body} → Keeps t → Cut Keeps k k' → Cut Keeps (action t d k) (action t d k')
  action_off : {t : Tag} {d : Action} {k k' : Body} → ¬ Keeps t → Cut Keeps k k' → Cut Keeps (action t d k) k'
  branch_in : {t : Tag} {e : Expr} {a a' b b' k k' : Body} → Keeps t → Cut Keeps a a' → Cut Keeps b b' → Cut Keeps k k' → Cut Keeps (branch t e a b k) (branch t e a' b' k')
  branch_off : {t : Tag} {e : Expr} {a b k k' : Body} → ¬ Keeps t → Pruned Keeps (skeleton a) nil → Pruned Keeps (skeleton b) nil → Cut Keeps k k' → Cut Keeps (branch t e a b k) k'
  loop_in : {t : Tag} {e : Expr} {b b' k k' : Body} → Keeps t → Cut Keeps b b' → Cut Keeps k k' → Cut Keeps (loop t e b k) (loop t e b' k')
  loop_off : {t : Tag} {e : Expr} {b k k' : Body} → ¬ Keeps t → Pruned Keeps (skeleton b) nil → Cut Keeps k k' → Cut Keeps (loop t e b k) k'

module _ (Keeps : Tag → Type 0) where
  pub cut_pruned : {B B' : Body} → Cut Keeps B B' → Pruned Keeps (skeleton B) (skeleton B')
  cut_pruned end = empty
  cut_pruned (action_in h r) = act_kept h (cut_pruned r)
  cut_pruned (action_off h r) = act_out h (cut_pruned r)
  cut_pruned (branch_in h r s q) = fork_kept h (cut_pruned r) (cut_pruned s) (cut_pruned q)
  cut_pruned (branch_off h r s q) = fork_out h r s (cut_pruned q)
  cut_pruned (loop_in h r q) = round_kept h (cut_pruned r) (cut_pruned q)
  cut_pruned (loop_off h r q) = round_out h r (cut_pruned q)

  none_here : (B : Body) → Pruned Keeps (skeleton B) nil → (t : Tag) (c : Content) → Keeps t → Says B t c → ⊥
  none_here B r t c k s = stands_down Keeps r (at t) k (says_stands B t c s)

  pub says_up : {B B' : Body} → Cut Keeps B B' → (t : Tag) (c : Content) → Says B' t c → Says B t c × Keeps t
  says_up end t c h = absurd h
  says_up (action_in h r) t c (inl g) = (inl g, subst Keeps (sym g.0) h)
  says_up (action_in h r) t c (inr g) = let x = says_up r t c g in (inr x.0, x.1)
  says_up (action_off h r) t c g = let x = says_up r t c g in (inr x.0, x.1)
  says_up (branch_in h r s q) t c (inl g) = (inl g, subst Keeps (sym g.0) h)
  says_up (branch_in h r s q) t c (inr (inl g)) = let x = says_up r t c g in (inr (inl x.0), x.1)
  says_up (branch_in h r s q) t c (inr (inr (inl g))) = let x = says_up s t c g in (inr (inr (inl x.0)), x.1)
  says_up (branch_in h r s q) t c (inr (inr (inr g))) = let x = says_up q t c g in (inr (inr (inr x.0)), x.1)
  says_up (branch_off h r s q) t c g = let x = says_up q t c g in (inr (inr (inr x.0)), x.1)
  says_up (loop_in h r q) t c (inl g) = (inl g, subst Keeps (sym g.0) h)
  says_up (loop_in h r q) t c (inr (inl g)) = let x = says_up r t c g in (inr (inl x.0), x.1)
  says_up (loop_in h r q) t c (inr (inr g)) = let x = says_up q t c g in (inr (inr x.0), x.1)
  says_up (loop_off h r q) t c g = let x = says_up q t c g in (inr (inr x.0), x.1)

  pub says_down : {B B' : Body} → Cut Keeps B B' → (t : Tag) (c : Content) → Keeps t → Says B t c → Says B' t c
  says_down end t c i h = h
  says_down (action_in h r) t c i (inl g) = inl g
  says_down (action_in h r) t c i (inr g) = inr (says_down r t c i g)
  says_down (action_off h r) t c i (inl g) = absurd (h (subst Keeps g.0 i))
  says_down (action_off h r) t c i (inr g) = says_down r t c i g
  says_down (branch_in h r s q) t c i (inl g) = inl g
  says_down (branch_in h r s q) t c i (inr (inl g)) = inr (inl (says_down r t c i g))
  says_down (branch_in h r s q) t c i (inr (inr (inl g))) = inr (inr (inl (says_down s t c i g)))
  says_down (branch_in h r s q) t c i (inr (inr (inr g))) = inr (inr (inr (says_down q t c i g)))
  says_down (branch_off h r s q) t c i (inl g) = absurd (h (subst Keeps g.0 i))
  says_down (branch_off {a = a} h r s q) t c i (inr (inl g)) = absurd (none_here a r t c i g)
  says_down (branch_off {b = b} h r s q) t c i (inr (inr (inl g))) = absurd (none_here b s t c i g)
  says_down (branch_off h r s q) t c i (inr (inr (inr g))) = says_down q t c i g
  says_down (loop_in h r q) t c i (inl g) = inl g
  says_down (loop_in h r q) t c i (inr (inl g)) = inr (inl (says_down r t c i g))
  says_down (loop_in h r q) t c i (inr (inr g)) = inr (inr (says_down q t c i g))
  says_down (loop_off h r q) t c i (inl g) = absurd (h (subst Keeps g.0 i))
  says_down (loop_off {b = b} h r q) t c i (inr (inl g)) = absurd (none_here b r t c i g)
  says_down (loop_off h r q) t c i (inr (inr g)) = says_down q t c i g

  pub stood_up : {B B' : Body} → Cut Keeps B B' → (nest : List Tag) (up : Parent) (t : Tag) (c : Standing) → StandsAs nest up B' t c → StandsAs nest up B t c
  stood_up end nest up t c h = h
  stood_up (action_in h r) nest up t c (inl g) = inl g
  stood_up (action_in h r) nest up t c (inr g) = inr (stood_up r nest up t c g)
  stood_up (action_off h r) nest up t c g = inr (stood_up r nest up t c g)
  stood_up (branch_in h r s q) nest up t c (inl g) = inl g
  stood_up (branch_in {t = v} h r s q) nest up t c (inr (inl g)) = inr (inl (stood_up r nest (Some (v, true)) t c g))
  stood_up (branch_in {t = v} h r s q) nest up t c (inr (inr (inl g))) = inr (inr (inl (stood_up s nest (Some (v, false)) t c g)))
  stood_up (branch_in h r s q) nest up t c (inr (inr (inr g))) = inr (inr (inr (stood_up q nest up t c g)))
  stood_up (branch_off h r s q) nest up t c g = inr (inr (inr (stood_up q nest up t c g)))
  stood_up (loop_in h r q) nest up t c (inl g) = inl g
  stood_up (loop_in {t = v} h r q) nest up t c (inr (inl g)) = inr (inl (stood_up r (nest ++ (v ∷ [])) (Some (v, true)) t c g))
  stood_up (loop_in h r q) nest up t c (inr (inr g)) = inr (inr (stood_up q nest up t c g))
  stood_up (loop_off h r q) nest up t c g = inr (inr (stood_up q nest up t c g))

  none_stands : (B : Body) → Pruned Keeps (skeleton B) nil → (nest : List Tag) (up : Parent) (t : Tag) (c : Standing) → Keeps t → StandsAs nest up B t c → ⊥
  none_stands B r nest up t c k s = stands_down Keeps r (at t) k (standing_in B nest up t c s)

  pub stood_down : {B B' : Body} → Cut Keeps B B' → (nest : List Tag) (up : Parent) (t : Tag) (c : Standing) → Keeps t → StandsAs nest up B t c → StandsAs nest up B' t c
  stood_down end nest up t c i h = h
  stood_down (action_in h r) nest up t c i (inl g) = inl g
  stood_down (action_in h r) nest up t c i (inr g) = inr (stood_down r nest up t c i g)
  stood_down (action_off h r) nest up t c i (inl g) = absurd (h (subst Keeps g.0 i))
  stood_down (action_off h r) nest up t c i (inr g) = stood_down r nest up t c i g
  stood_down (branch_in h r s q) nest up t c i (inl g) = inl g
  stood_down (branch_in {t = v} h r s q) nest up t c i (inr (inl g)) = inr (inl (stood_down r nest (Some (v, true)) t c i g))
  stood_down (branch_in {t = v} h r s q) nest up t c i (inr (inr (inl g))) = inr (inr (inl (stood_down s nest (Some (v, false)) t c i g)))
  stood_down (branch_in h r s q) nest up t c i (inr (inr (inr g))) = inr (inr (inr (stood_down q nest up t c i g)))
  stood_down (branch_off h r s q) nest up t c i (inl g) = absurd (h (subst Keeps g.0 i))
  stood_down (branch_off {t = v} {a = a} h r s q) nest up t c i (inr (inl g)) = absurd (none_stands a r nest (Some (v, true)) t c i g)
  stood_down (branch_off {t = v} {b = b} h r s q) nest up t c i (inr (inr (inl g))) = absurd (none_stands b s nest (Some (v, false)) t c i g)
  stood_down (branch_off h r s q) nest up t c i (inr (inr (inr g))) = stood_down q nest up t c i g
  stood_down (loop_in h r q) nest up t c i (inl g) = inl g
  stood_down (loop_in {t = v} h r q) nest up t c i (inr (inl g)) = inr (inl (stood_down r (nest ++ (v ∷ [])) (Some (v, true)) t c i g))
  stood_down (loop_in h r q) nest up t c i (inr (inr g)) = inr (inr (stood_down q nest up t c i g))
  stood_down (loop_off h r q) nest up t c i (inl g) = absurd (h (subst Keeps g.0 i))
  stood_down (loop_off {t = v} {b = b} h r q) nest up t c i (inr (inl g)) = absurd (none_stands b r (nest ++ (v ∷ [])) (Some (v, true)) t c i g)
  stood_down (loop_off h r q) nest up t c i (inr (inr g)) = stood_down q nest up t c i g

-- where V has with each part what it depends on by control
module _ (P : Body) (dp : Distinct (skeleton P)) (V : Vertex → Type 0) where
  abbrev pub KeepsIn : Tag → Type 0
  KeepsIn t = (c : Content) × Says P t c × V (Part t c)

  abbrev pub IsUpward : Type 0
  IsUpward = (v w : Tag) (s : Standing) (d : Content) (label : Bool) → StandsAsIn P v s → s.parent ≡ Some (w, label) → Says P w d → V (Part v s.content) → V (Part w d)

  abbrev Inside : List Tag → Parent → Body → Type 0
  Inside nest up B = (v : Tag) (s : Standing) → StandsAs nest up B v s → StandsAsIn P v s

  abbrev standing : Content → List Tag → Parent → Standing
  standing c nest up = record { content = c; nest = nest; parent = up }

  said : (nest : List Tag) (up : Parent) (v : Tag) (c : Content) → StandsAsIn P v (standing c nest up) → Says P v c
  said nest up v c s = says_of_standing P [] None v (standing c nest up) s

  not_kept : (v : Tag) (c : Content) → Says P v c → ¬ V (Part v c) → ¬ KeepsIn v
  not_kept v c s n (d, s', h) = n (subst (λ z. V (Part v z)) (says_one P dp v d c s' s) h)

  module _ (upward : IsUpward) where
    -- a block right under a part that isn't in V
    nothing : (B : Body) (nest : List Tag) (w : Tag) (label : Bool) (d : Content) → Says P w d → ¬ V (Part w d) → Inside nest (Some (w, label)) B → Pruned KeepsIn (skeleton B) nil
    nothing done nest w label d says n inside = empty
    nothing (action v a rest) nest w label d says n inside =
        let s = inside v (standing (content_by a) nest (Some (w, label))) (inl (refl, refl)) in
        act_out (not_kept v (content_by a) (said nest (Some (w, label)) v (content_by a) s) (λ h. n (upward v w (standing (content_by a) nest (Some (w, label))) d label s refl says h)))
        (nothing rest nest w label d says n (λ u r g. inside u r (inr g)))
    nothing (branch v e a b rest) nest w label d says n inside =
        let s = inside v (standing (If e) nest (Some (w, label))) (inl (refl, refl)) in
        let m : ¬ V (Part v (If e)) = λ h. n (upward v w (standing (If e) nest (Some (w, label))) d label s refl says h) in
        let sv = said nest (Some (w, label)) v (If e) s in
        fork_out (not_kept v (If e) sv m)
        (nothing a nest v true (If e) sv m (λ u r g. inside u r (inr (inl g))))
        (nothing b nest v false (If e) sv m (λ u r g. inside u r (inr (inr (inl g)))))
        (nothing rest nest w label d says n (λ u r g. inside u r (inr (inr (inr g)))))
    nothing (loop v e b rest) nest w label d says n inside =
        let s = inside v (standing (While e) (nest ++ (v ∷ [])) (Some (w, label))) (inl (refl, refl)) in
        let m : ¬ V (Part v (While e)) = λ h. n (upward v w (standing (While e) (nest ++ (v ∷ [])) (Some (w, label))) d label s refl says h) in
        let sv = said (nest ++ (v ∷ [])) (Some (w, label)) v (While e) s in
        round_out (not_kept v (While e) sv m)
        (nothing b (nest ++ (v ∷ [])) v true (While e) sv m (λ u r g. inside u r (inr (inl g))))
        (nothing rest nest w label d says n (λ u r g. inside u r (inr (inr g))))

    pub cut_of : {B B' : Body} → BlockLeft V B B' → (nest : List Tag) (up : Parent) → Inside nest up B → Cut KeepsIn B B'
    cut_of ended nest up inside = end
    cut_of (action_kept {t = t} {d = d} h r) nest up inside =
        action_in (content_by d, said nest up t (content_by d) (inside t (standing (content_by d) nest up) (inl (refl, refl))), h) (cut_of r nest up (λ u c g. inside u c (inr g)))
    cut_of (action_out {t = t} {d = d} h r) nest up inside =
        action_off (not_kept t (content_by d) (said nest up t (content_by d) (inside t (standing (content_by d) nest up) (inl (refl, refl)))) h) (cut_of r nest up (λ u c g. inside u c (inr g)))
    cut_of (branch_kept {t = t} {e = e} h r s q) nest up inside =
        branch_in (If e, said nest up t (If e) (inside t (standing (If e) nest up) (inl (refl, refl))), h)
        (cut_of r nest (Some (t, true)) (λ u c g. inside u c (inr (inl g))))
        (cut_of s nest (Some (t, false)) (λ u c g. inside u c (inr (inr (inl g)))))
        (cut_of q nest up (λ u c g. inside u c (inr (inr (inr g)))))
    cut_of (branch_out {t = t} {e = e} {a = a} {b = b} h q) nest up inside =
        let s = said nest up t (If e) (inside t (standing (If e) nest up) (inl (refl, refl))) in
        branch_off (not_kept t (If e) s h)
        (nothing a nest t true (If e) s h (λ u c g. inside u c (inr (inl g))))
        (nothing b nest t false (If e) s h (λ u c g. inside u c (inr (inr (inl g)))))
        (cut_of q nest up (λ u c g. inside u c (inr (inr (inr g)))))
    cut_of (loop_kept {t = t} {e = e} h r q) nest up inside =
        loop_in (While e, said (nest ++ (t ∷ [])) up t (While e) (inside t (standing (While e) (nest ++ (t ∷ [])) up) (inl (refl, refl))), h)
        (cut_of r (nest ++ (t ∷ [])) (Some (t, true)) (λ u c g. inside u c (inr (inl g))))
        (cut_of q nest up (λ u c g. inside u c (inr (inr g))))
    cut_of (loop_out {t = t} {e = e} {b = b} h q) nest up inside =
        let s = said (nest ++ (t ∷ [])) up t (While e) (inside t (standing (While e) (nest ++ (t ∷ [])) up) (inl (refl, refl))) in
        loop_off (not_kept t (While e) s h)
        (nothing b (nest ++ (t ∷ [])) t true (While e) s h (λ u c g. inside u c (inr (inl g))))
        (cut_of q nest up (λ u c g. inside u c (inr (inr g))))
