-- Paths and regions: where a path leaves a region first, and where it enters it last.
use Rattle.std.specs.Prelude.{◌≡◌, List, [], ◌∷◌, ◌++◌, ◌⊎◌}
use mathlib.Core.Logic.{inl, inr}
use Rattle.std.proofs.Common.{sym, subst}
use Rattle.hpr_syntax.specs.Paths.{Path, one, step}
use Rattle.hpr_paths.proofs.Among.{Among, here, there}

pub join : {P M : Type 0} {R : P → P → M → Type 0} {Stops : P → Type 0} {a c b : P} {ms ns : List M}
    → Path R Stops a c ms → ¬ Stops c → Path R Stops c b ns → Path R Stops a b (ms ++ ns)
join (one r) n q = step r n q
join (step r d p) n q = step r d (join p n q)

-- the steps that begin in the region
abbrev pub Within : {P M : Type 0} → (P → P → M → Type 0) → (P → Type 0) → P → P → M → Type 0
Within R In a c m = R a c m × In a

abbrev pub FromFirst : {P M : Type 0} → (P → P → M → Type 0) → (P → Type 0) → (P → Type 0) → P → P → Type 0
FromFirst R In Stops hd u = (hd ≡ u) ⊎ ((ns : List _) × (¬ Stops hd) × Path (Within R In) Stops hd u ns)

-- the last entry into a region whose entries all go to hd: the path begins there, or it comes from hd
entry_one : {P M : Type 0} (R : P → P → M → Type 0) (In Stops : P → Type 0) (hd : P)
    → ((a c : P) (m : M) → R a c m → ¬ In a → In c → hd ≡ c)
    → (a u : P) (m : M) → R a u m → In u → Dec (In a)
    → (In a × Path (Within R In) Stops a u (m ∷ [])) ⊎ FromFirst R In Stops hd u
entry_one R In Stops hd enter a u m r iu (yes ia) = inl (ia, one (r, ia))
entry_one R In Stops hd enter a u m r iu (no na) = inr (inl (enter a u m r na iu))

entry_step : {P M : Type 0} (R : P → P → M → Type 0) (In Stops : P → Type 0) (hd : P)
    → ((a c : P) (m : M) → R a c m → ¬ In a → In c → hd ≡ c)
    → (a c u : P) (m : M) (ms : List M) → R a c m → ¬ Stops c → Dec (In a)
    → (In c × Path (Within R In) Stops c u ms) ⊎ FromFirst R In Stops hd u
    → (In a × Path (Within R In) Stops a u (m ∷ ms)) ⊎ FromFirst R In Stops hd u
entry_step R In Stops hd enter a c u m ms r d (yes ia) (inl q) = inl (ia, step (r, ia) d q.1)
entry_step R In Stops hd enter a c u m ms r d (no na) (inl q) =
    let e = enter a c m r na q.0 in
    inr (inr (ms, subst (λ z. ¬ Stops z) (sym e) d, subst (λ z. Path (Within R In) Stops z u ms) (sym e) q.1))
entry_step R In Stops hd enter a c u m ms r d _ (inr x) = inr x

pub last_entry : {P M : Type 0} (R : P → P → M → Type 0) (In Stops : P → Type 0) (hd : P)
    → ((c : P) → Dec (In c))
    → ((a c : P) (m : M) → R a c m → ¬ In a → In c → hd ≡ c)
    → (a u : P) (ms : List M) → Path R Stops a u ms → In u
    → (In a × Path (Within R In) Stops a u ms) ⊎ FromFirst R In Stops hd u
last_entry R In Stops hd dec enter a u _ (one {m = m} r) iu = entry_one R In Stops hd enter a u m r iu (dec a)
last_entry R In Stops hd dec enter a u _ (step {b = c} {m = m} {ms = ms} r d p) iu =
    entry_step R In Stops hd enter a c u m ms r d (dec a) (last_entry R In Stops hd dec enter c u ms p iu)

-- the first exit from a region that is left to z1 alone, by the mark m1
pub data LeavesBy {P M : Type 0} (R : P → P → M → Type 0) (In Stops : P → Type 0) (z1 : P) (m1 : M) : P → P → List M → Type 0 where
  ends : {a : P} {ms : List M} → Path (Within R In) Stops a z1 ms → Among m1 ms → LeavesBy R In Stops z1 m1 a z1 ms
  goes : {a b : P} {ms ns : List M} → Path (Within R In) Stops a z1 ms → Among m1 ms → ¬ Stops z1 → Path R Stops z1 b ns → LeavesBy R In Stops z1 m1 a b (ms ++ ns)

one_more : {P M : Type 0} {R : P → P → M → Type 0} {In Stops : P → Type 0} {z1 : P} {m1 : M} {a c b : P} {m : M} {ms : List M}
    → Within R In a c m → ¬ Stops c → LeavesBy R In Stops z1 m1 c b ms → LeavesBy R In Stops z1 m1 a b (m ∷ ms)
one_more w d (ends p h) = ends (step w d p) (there h)
one_more w d (goes p h n q) = goes (step w d p) (there h) n q

exit_one : {P M : Type 0} (R : P → P → M → Type 0) (In Stops : P → Type 0) (z1 : P) (m1 : M)
    → ((a c : P) (m : M) → R a c m → In a → ¬ In c → (z1 ≡ c) × (m1 ≡ m))
    → (a z : P) (m : M) → R a z m → In a → Dec (In z)
    → (In z × Path (Within R In) Stops a z (m ∷ [])) ⊎ LeavesBy R In Stops z1 m1 a z (m ∷ [])
exit_one R In Stops z1 m1 leaves a z m r ia (yes iz) = inl (iz, one (r, ia))
exit_one R In Stops z1 m1 leaves a z m r ia (no nz) =
    let e = leaves a z m r ia nz in
    inr (subst (λ y. LeavesBy R In Stops z1 m1 a y (m ∷ [])) e.0 (ends (subst (λ y. Path (Within R In) Stops a y (m ∷ [])) (sym e.0) (one (r, ia))) (subst (λ y. Among y (m ∷ [])) (sym e.1) here)))

exit_step : {P M : Type 0} (R : P → P → M → Type 0) (In Stops : P → Type 0) (z1 : P) (m1 : M)
    → ((a c : P) (m : M) → R a c m → In a → ¬ In c → (z1 ≡ c) × (m1 ≡ m))
    → (a c z : P) (m : M) (ms : List M) → R a c m → ¬ Stops c → Path R Stops c z ms → In a
    → Dec (In c) → (In c → (In z × Path (Within R In) Stops c z ms) ⊎ LeavesBy R In Stops z1 m1 c z ms)
    → (In z × Path (Within R In) Stops a z (m ∷ ms)) ⊎ LeavesBy R In Stops z1 m1 a z (m ∷ ms)
exit_step R In Stops z1 m1 leaves a c z m ms r d p ia (yes ic) ih = go (ih ic)
  where
    go : (In z × Path (Within R In) Stops c z ms) ⊎ LeavesBy R In Stops z1 m1 c z ms
        → (In z × Path (Within R In) Stops a z (m ∷ ms)) ⊎ LeavesBy R In Stops z1 m1 a z (m ∷ ms)
    go (inl q) = inl (q.0, step (r, ia) d q.1)
    go (inr x) = inr (one_more (r, ia) d x)
exit_step R In Stops z1 m1 leaves a c z m ms r d p ia (no nc) ih =
    let e = leaves a c m r ia nc in
    inr (goes {ms = m ∷ []} (subst (λ y. Path (Within R In) Stops a y (m ∷ [])) (sym e.0) (one (r, ia))) (subst (λ y. Among y (m ∷ [])) (sym e.1) here)
    (subst (λ y. ¬ Stops y) (sym e.0) d) (subst (λ y. Path R Stops y z ms) (sym e.0) p))

pub first_exit : {P M : Type 0} (R : P → P → M → Type 0) (In Stops : P → Type 0) (z1 : P) (m1 : M)
    → ((c : P) → Dec (In c))
    → ((a c : P) (m : M) → R a c m → In a → ¬ In c → (z1 ≡ c) × (m1 ≡ m))
    → (a z : P) (ms : List M) → Path R Stops a z ms → In a
    → (In z × Path (Within R In) Stops a z ms) ⊎ LeavesBy R In Stops z1 m1 a z ms
first_exit R In Stops z1 m1 dec leaves a z _ (one {m = m} r) ia = exit_one R In Stops z1 m1 leaves a z m r ia (dec z)
first_exit R In Stops z1 m1 dec leaves a z _ (step {b = c} {m = m} {ms = ms} r d p) ia =
    exit_step R In Stops z1 m1 leaves a c z m ms r d p ia (dec c) (first_exit R In Stops z1 m1 dec leaves c z ms p)
