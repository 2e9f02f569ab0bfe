-- What follows a part that is taken out, in what is left.
use Rattle.std.proofs.Common.{◌≡◌, ◌⊎◌, Some, sym, subst, inl, inr}
use Rattle.hpr_terms.specs.declared.tag.Tag.{Tag}
use Rattle.hpr_syntax.specs.Skeleton.{Skeleton, Point, at, StandsIn}
use Rattle.hpr_syntax.specs.Pairs.{Next, first_of}
use Rattle.hpr_prune.specs.Pruned.{Pruned, empty, act_kept, act_out, fork_kept, fork_out, round_kept, round_out, IsKept}

module _ (Keeps : Tag → Type 0) where
  -- the part a isn't kept, and in what is left x follows where a was
  abbrev pub LeadsOn : {b b' : Skeleton} → Pruned Keeps b b' → Next → Point → Next → Type 0
  LeadsOn empty n a x = ⊥
  LeadsOn (act_kept h r) n a x = LeadsOn r n a x
  LeadsOn (act_out {t = t} {k' = k'} h r) n a x = ((a ≡ at t) × (x ≡ first_of k' n)) ⊎ LeadsOn r n a x
  LeadsOn (fork_kept {k' = k'} h r s q) n a x = LeadsOn r (first_of k' n) a x ⊎ (LeadsOn s (first_of k' n) a x ⊎ LeadsOn q n a x)
  LeadsOn (fork_out {t = t} {k' = k'} h r s q) n a x =
      ((a ≡ at t) × (x ≡ first_of k' n)) ⊎ (LeadsOn r (first_of k' n) a x ⊎ (LeadsOn s (first_of k' n) a x ⊎ LeadsOn q n a x))
  LeadsOn (round_kept {t = t} h r q) n a x = LeadsOn r (at t, Some t) a x ⊎ LeadsOn q n a x
  LeadsOn (round_out {t = t} {k' = k'} h r q) n a x = ((a ≡ at t) × (x ≡ first_of k' n)) ⊎ (LeadsOn r (first_of k' n) a x ⊎ LeadsOn q n a x)

  pub leads_stands : {b b' : Skeleton} (r : Pruned Keeps b b') (n : Next) (a : Point) (x : Next) → LeadsOn r n a x → StandsIn b a
  leads_stands empty n a x h = absurd h
  leads_stands (act_kept h r) n a x l = inr (leads_stands r n a x l)
  leads_stands (act_out h r) n a x (inl l) = inl l.0
  leads_stands (act_out h r) n a x (inr l) = inr (leads_stands r n a x l)
  leads_stands (fork_kept {k' = k'} h r s q) n a x (inl l) = inr (inl (leads_stands r (first_of k' n) a x l))
  leads_stands (fork_kept {k' = k'} h r s q) n a x (inr (inl l)) = inr (inr (inl (leads_stands s (first_of k' n) a x l)))
  leads_stands (fork_kept h r s q) n a x (inr (inr l)) = inr (inr (inr (leads_stands q n a x l)))
  leads_stands (fork_out h r s q) n a x (inl l) = inl l.0
  leads_stands (fork_out {k' = k'} h r s q) n a x (inr (inl l)) = inr (inl (leads_stands r (first_of k' n) a x l))
  leads_stands (fork_out {k' = k'} h r s q) n a x (inr (inr (inl l))) = inr (inr (inl (leads_stands s (first_of k' n) a x l)))
  leads_stands (fork_out h r s q) n a x (inr (inr (inr l))) = inr (inr (inr (leads_stands q n a x l)))
  leads_stands (round_kept {t = t} h r q) n a x (inl l) = inr (inl (leads_stands r (at t, Some t) a x l))
  leads_stands (round_kept h r q) n a x (inr l) = inr (inr (leads_stands q n a x l))
  leads_stands (round_out h r q) n a x (inl l) = inl l.0
  leads_stands (round_out {k' = k'} h r q) n a x (inr (inl l)) = inr (inl (leads_stands r (first_of k' n) a x l))
  leads_stands (round_out h r q) n a x (inr (inr l)) = inr (inr (leads_stands q n a x l))

  pub leads_left : {b b' : Skeleton} (r : Pruned Keeps b b') (n : Next) (a : Point) (x : Next) → LeadsOn r n a x → ¬ IsKept Keeps a
  leads_left empty n a x h = absurd h
  leads_left (act_kept h r) n a x l = leads_left r n a x l
  leads_left (act_out h r) n a x (inl l) = subst (λ y. ¬ IsKept Keeps y) (sym l.0) h
  leads_left (act_out h r) n a x (inr l) = leads_left r n a x l
  leads_left (fork_kept {k' = k'} h r s q) n a x (inl l) = leads_left r (first_of k' n) a x l
  leads_left (fork_kept {k' = k'} h r s q) n a x (inr (inl l)) = leads_left s (first_of k' n) a x l
  leads_left (fork_kept h r s q) n a x (inr (inr l)) = leads_left q n a x l
  leads_left (fork_out h r s q) n a x (inl l) = subst (λ y. ¬ IsKept Keeps y) (sym l.0) h
  leads_left (fork_out {k' = k'} h r s q) n a x (inr (inl l)) = leads_left r (first_of k' n) a x l
  leads_left (fork_out {k' = k'} h r s q) n a x (inr (inr (inl l))) = leads_left s (first_of k' n) a x l
  leads_left (fork_out h r s q) n a x (inr (inr (inr l))) = leads_left q n a x l
  leads_left (round_kept {t = t} h r q) n a x (inl l) = leads_left r (at t, Some t) a x l
  leads_left (round_kept h r q) n a x (inr l) = leads_left q n a x l
  leads_left (round_out h r q) n a x (inl l) = subst (λ y. ¬ IsKept Keeps y) (sym l.0) h
  leads_left (round_out {k' = k'} h r q) n a x (inr (inl l)) = leads_left r (first_of k' n) a x l
  leads_left (round_out h r q) n a x (inr (inr l)) = leads_left q n a x l
