-- One thing alone follows a part that is taken out.
use Rattle.std.proofs.Common.{◌≡◌, Some, sym, subst, ◌∙◌, inl, inr}
use Rattle.hpr_terms.specs.declared.tag.Tag.{Tag}
use Rattle.hpr_syntax.specs.Skeleton.{Skeleton, Point, at, StandsIn, Distinct}
use Rattle.hpr_syntax.specs.Pairs.{Next, first_of}
use Rattle.hpr_prune.specs.Pruned.{Pruned, empty, act_kept, act_out, fork_kept, fork_out, round_kept, round_out}
use Rattle.hpr_prune.proofs.Leads.{LeadsOn, leads_stands}

module _ (Keeps : Tag → Type 0) where
  pub leads_once : {b b' : Skeleton} (r : Pruned Keeps b b') → Distinct b → (n : Next) (a : Point) (x y : Next) → LeadsOn Keeps r n a x → LeadsOn Keeps r n a y → x ≡ y
  leads_once empty di n a x y h g = absurd h
  leads_once (act_kept h r) di n a x y l m = leads_once r di.1 n a x y l m
  leads_once (act_out h r) di n a x y (inl l) (inl m) = l.1 ∙ sym m.1
  leads_once (act_out {k = k} h r) di n a x y (inl l) (inr m) = absurd (di.0 (subst (StandsIn k) l.0 (leads_stands Keeps r n a y m)))
  leads_once (act_out {k = k} h r) di n a x y (inr l) (inl m) = absurd (di.0 (subst (StandsIn k) m.0 (leads_stands Keeps r n a x l)))
  leads_once (act_out h r) di n a x y (inr l) (inr m) = leads_once r di.1 n a x y l m
  leads_once (fork_kept {k' = k'} h r s q) di n a x y (inl l) (inl m) = leads_once r di.6 (first_of k' n) a x y l m
  leads_once (fork_kept {k' = k'} h r s q) di n a x y (inl l) (inr (inl m)) = absurd (di.3 a (leads_stands Keeps r (first_of k' n) a x l) (leads_stands Keeps s (first_of k' n) a y m))
  leads_once (fork_kept {k' = k'} h r s q) di n a x y (inl l) (inr (inr m)) = absurd (di.4 a (leads_stands Keeps r (first_of k' n) a x l) (leads_stands Keeps q n a y m))
  leads_once (fork_kept {k' = k'} h r s q) di n a x y (inr (inl l)) (inl m) = absurd (di.3 a (leads_stands Keeps r (first_of k' n) a y m) (leads_stands Keeps s (first_of k' n) a x l))
  leads_once (fork_kept {k' = k'} h r s q) di n a x y (inr (inl l)) (inr (inl m)) = leads_once s di.7 (first_of k' n) a x y l m
  leads_once (fork_kept {k' = k'} h r s q) di n a x y (inr (inl l)) (inr (inr m)) = absurd (di.5 a (leads_stands Keeps s (first_of k' n) a x l) (leads_stands Keeps q n a y m))
  leads_once (fork_kept {k' = k'} h r s q) di n a x y (inr (inr l)) (inl m) = absurd (di.4 a (leads_stands Keeps r (first_of k' n) a y m) (leads_stands Keeps q n a x l))
  leads_once (fork_kept {k' = k'} h r s q) di n a x y (inr (inr l)) (inr (inl m)) = absurd (di.5 a (leads_stands Keeps s (first_of k' n) a y m) (leads_stands Keeps q n a x l))
  leads_once (fork_kept h r s q) di n a x y (inr (inr l)) (inr (inr m)) = leads_once q di.8 n a x y l m
  leads_once (fork_out h r s q) di n a x y (inl l) (inl m) = l.1 ∙ sym m.1
  leads_once (fork_out {b = b} {k' = k'} h r s q) di n a x y (inl l) (inr (inl m)) = absurd (di.0 (subst (StandsIn b) l.0 (leads_stands Keeps r (first_of k' n) a y m)))
  leads_once (fork_out {c = c} {k' = k'} h r s q) di n a x y (inl l) (inr (inr (inl m))) = absurd (di.1 (subst (StandsIn c) l.0 (leads_stands Keeps s (first_of k' n) a y m)))
  leads_once (fork_out {k = k} h r s q) di n a x y (inl l) (inr (inr (inr m))) = absurd (di.2 (subst (StandsIn k) l.0 (leads_stands Keeps q n a y m)))
  leads_once (fork_out {b = b} {k' = k'} h r s q) di n a x y (inr (inl l)) (inl m) = absurd (di.0 (subst (StandsIn b) m.0 (leads_stands Keeps r (first_of k' n) a x l)))
  leads_once (fork_out {c = c} {k' = k'} h r s q) di n a x y (inr (inr (inl l))) (inl m) = absurd (di.1 (subst (StandsIn c) m.0 (leads_stands Keeps s (first_of k' n) a x l)))
  leads_once (fork_out {k = k} h r s q) di n a x y (inr (inr (inr l))) (inl m) = absurd (di.2 (subst (StandsIn k) m.0 (leads_stands Keeps q n a x l)))
  leads_once (fork_out {k' = k'} h r s q) di n a x y (inr (inl l)) (inr (inl m)) = leads_once r di.6 (first_of k' n) a x y l m
  leads_once (fork_out {k' = k'} h r s q) di n a x y (inr (inl l)) (inr (inr (inl m))) = absurd (di.3 a (leads_stands Keeps r (first_of k' n) a x l) (leads_stands Keeps s (first_of k' n) a y m))
  leads_once (fork_out {k' = k'} h r s q) di n a x y (inr (inl l)) (inr (inr (inr m))) = absurd (di.4 a (leads_stands Keeps r (first_of k' n) a x l) (leads_stands Keeps q n a y m))
  leads_once (fork_out {k' = k'} h r s q) di n a x y (inr (inr (inl l))) (inr (inl m)) = absurd (di.3 a (leads_stands Keeps r (first_of k' n) a y m) (leads_stands Keeps s (first_of k' n) a x l))
  leads_once (fork_out {k' = k'} h r s q) di n a x y (inr (inr (inl l))) (inr (inr (inl m))) = leads_once s di.7 (first_of k' n) a x y l m
  leads_once (fork_out {k' = k'} h r s q) di n a x y (inr (inr (inl l))) (inr (inr (inr m))) = absurd (di.5 a (leads_stands Keeps s (first_of k' n) a x l) (leads_stands Keeps q n a y m))
  leads_once (fork_out {k' = k'} h r s q) di n a x y (inr (inr (inr l))) (inr (inl m)) = absurd (di.4 a (leads_stands Keeps r (first_of k' n) a y m) (leads_stands Keeps q n a x l))
  leads_once (fork_out {k' = k'} h r s q) di n a x y (inr (inr (inr l))) (inr (inr (inl m))) = absurd (di.5 a (leads_stands Keeps s (first_of k' n) a y m) (leads_stands Keeps q n a x l))
  leads_once (fork_out h r s q) di n a x y (inr (inr (inr l))) (inr (inr (inr m))) = leads_once q di.8 n a x y l m
  leads_once (round_kept {t = t} h r q) di n a x y (inl l) (inl m) = leads_once r di.3 (at t, Some t) a x y l m
  leads_once (round_kept {t = t} h r q) di n a x y (inl l) (inr m) = absurd (di.2 a (leads_stands Keeps r (at t, Some t) a x l) (leads_stands Keeps q n a y m))
  leads_once (round_kept {t = t} h r q) di n a x y (inr l) (inl m) = absurd (di.2 a (leads_stands Keeps r (at t, Some t) a y m) (leads_stands Keeps q n a x l))
  leads_once (round_kept h r q) di n a x y (inr l) (inr m) = leads_once q di.4 n a x y l m
  leads_once (round_out h r q) di n a x y (inl l) (inl m) = l.1 ∙ sym m.1
  leads_once (round_out {b = b} {k' = k'} h r q) di n a x y (inl l) (inr (inl m)) = absurd (di.0 (subst (StandsIn b) l.0 (leads_stands Keeps r (first_of k' n) a y m)))
  leads_once (round_out {k = k} h r q) di n a x y (inl l) (inr (inr m)) = absurd (di.1 (subst (StandsIn k) l.0 (leads_stands Keeps q n a y m)))
  leads_once (round_out {b = b} {k' = k'} h r q) di n a x y (inr (inl l)) (inl m) = absurd (di.0 (subst (StandsIn b) m.0 (leads_stands Keeps r (first_of k' n) a x l)))
  leads_once (round_out {k = k} h r q) di n a x y (inr (inr l)) (inl m) = absurd (di.1 (subst (StandsIn k) m.0 (leads_stands Keeps q n a x l)))
  leads_once (round_out {k' = k'} h r q) di n a x y (inr (inl l)) (inr (inl m)) = leads_once r di.3 (first_of k' n) a x y l m
  leads_once (round_out {k' = k'} h r q) di n a x y (inr (inl l)) (inr (inr m)) = absurd (di.2 a (leads_stands Keeps r (first_of k' n) a x l) (leads_stands Keeps q n a y m))
  leads_once (round_out {k' = k'} h r q) di n a x y (inr (inr l)) (inr (inl m)) = absurd (di.2 a (leads_stands Keeps r (first_of k' n) a y m) (leads_stands Keeps q n a x l))
  leads_once (round_out h r q) di n a x y (inr (inr l)) (inr (inr m)) = leads_once q di.4 n a x y l m
