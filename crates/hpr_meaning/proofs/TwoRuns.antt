-- Two runs that share a slice, where the first ends: each step of the second that lies in the slice is an item of the first, with the
-- same origins and the same value. All is said over a record of what is known of a run; nothing here looks at a program.
use Rattle.std.proofs.Common.{◌≡◌, ℕ, zero, suc, ◌<◌, ◌≤◌, Bool, ◌⊎◌, sym, ap, subst, ◌∙◌, inl, inr, arith}
use Rattle.hpr_terms.proofs.Facts.{compared}

-- what a run is told in: spots, which are places with what the part there says, the names that they define and use, and what a spot does in
-- a state, which depends on the names that it uses alone
pub record Language : Type 1 where
  pub Spot : Type 0
  pub Name : Type 0
  pub Value : Type 0
  pub State : Type 0
  pub Answer : Type 0
  pub get : State → Name → Value
  pub ok : Value → Answer
  pub ok_inj : (a b : Value) → ok a ≡ ok b → a ≡ b
  pub truth : Value → Bool
  pub Defines : Name → Spot → Type 0
  pub Uses : Name → Spot → Type 0
  pub defines? : (x : Name) (σ : Spot) → Dec (Defines x σ)
  pub act : Spot → State → Answer
  pub act_by_uses : (σ : Spot) (f g : State) → ((x : Name) → Uses x σ → get f x ≡ get g x) → act σ f ≡ act σ g
  pub start : State

-- one program's structure and one run of it; a step is an item, or, at `count`, the place where the run stopped
pub record OneRun (l : Language) : Type 1 where
  pub before : l.Spot → l.Spot → Type 0
  pub irreflexive : (a : l.Spot) → ¬ before a a
  pub transitive : (a b c : l.Spot) → before a b → before b c → before a c
  pub Top : l.Spot → Type 0
  pub Called : l.Spot → l.Spot → Bool → Type 0
  pub called_later : (a b : l.Spot) (t : Bool) → Called a b t → before b a
  pub Flow : l.Name → l.Spot → l.Spot → Type 0
  pub count : ℕ
  pub Stopped : Type 0
  pub spot : ℕ → l.Spot
  pub gave : ℕ → l.Value
  pub state_at : ℕ → l.State
  pub ascends : (j k : ℕ) → j < k → (k < count) ⊎ ((k ≡ count) × Stopped) → before (spot j) (spot k)
  pub cause : (k : ℕ) → (k < count) ⊎ ((k ≡ count) × Stopped)
      → Top (spot k) ⊎ ((j : ℕ) × (j < k) × Called (spot k) (spot j) (l.truth (gave j)))
  pub listed : (σ : l.Spot) (k : ℕ) → (k < count) ⊎ ((k ≡ count) × Stopped) → before σ (spot k)
      → Top σ ⊎ ((j : ℕ) × (j < count) × Called σ (spot j) (l.truth (gave j))) → (i : ℕ) × (i < k) × (spot i ≡ σ)
  pub all_at_end : ¬ Stopped → (σ : l.Spot) → Top σ ⊎ ((j : ℕ) × (j < count) × Called σ (spot j) (l.truth (gave j)))
      → (i : ℕ) × (i < count) × (spot i ≡ σ)
  pub flow : (k j : ℕ) (x : l.Name) → (k < count) ⊎ ((k ≡ count) × Stopped) → j < k → l.Defines x (spot j)
      → ((i : ℕ) → j < i → i < k → ¬ l.Defines x (spot i)) → l.Uses x (spot k) → Flow x (spot j) (spot k)
  pub none_defined : (k : ℕ) (x : l.Name) → ((j : ℕ) → j < k → ¬ l.Defines x (spot j)) → l.get (state_at k) x ≡ l.get l.start x
  pub last_defined : (k j : ℕ) (x : l.Name) → k ≤ count → j < k → l.Defines x (spot j)
      → ((i : ℕ) → j < i → i < k → ¬ l.Defines x (spot i)) → l.get (state_at k) x ≡ gave j
  pub item_gives : (k : ℕ) → k < count → l.act (spot k) (state_at k) ≡ l.ok (gave k)

abbrev pub IsStep : {l : Language} (r : OneRun l) → ℕ → Type 0
IsStep r k = (k < r.count) ⊎ ((k ≡ r.count) × r.Stopped)

abbrev pub IsDue : {l : Language} (r : OneRun l) → l.Spot → Type 0
IsDue {l = l} r σ = r.Top σ ⊎ ((j : ℕ) × (j < r.count) × r.Called σ (r.spot j) (l.truth (r.gave j)))

-- what two runs share
pub record Shares (l : Language) (p q : OneRun l) (Both : l.Spot → Type 0) : Type 1 where
  pub first_ends : ¬ p.Stopped
  pub top : (σ : l.Spot) → Both σ → q.Top σ → p.Top σ
  pub top' : (σ : l.Spot) → Both σ → p.Top σ → q.Top σ
  pub called : (σ π : l.Spot) (t : Bool) → Both σ → q.Called σ π t → Both π × p.Called σ π t
  pub called' : (σ π : l.Spot) (t : Bool) → Both σ → p.Called σ π t → Both π × q.Called σ π t
  pub flow : (x : l.Name) (σ τ : l.Spot) → Both τ → q.Flow x σ τ → Both σ × p.Flow x σ τ
  pub flow' : (x : l.Name) (σ τ : l.Spot) → Both τ → p.Flow x σ τ → Both σ × q.Flow x σ τ
  pub flow_order : (x : l.Name) (σ τ : l.Spot) → Both τ → q.Flow x σ τ → q.before σ τ → p.before σ τ
  pub flow_order' : (x : l.Name) (σ τ : l.Spot) → Both τ → p.Flow x σ τ → p.before σ τ → q.before σ τ
  pub use_order : (x : l.Name) (σ ρ τ : l.Spot) → Both τ → p.Flow x σ τ → p.Flow x ρ τ → p.before σ ρ → q.before σ ρ

step_below : {l : Language} (r : OneRun l) (k j : ℕ) → IsStep r k → j < k → j < r.count
step_below r k j (inl h) a = omega arith
step_below r k j (inr h) a = omega arith

step_before : {l : Language} (r : OneRun l) (k j : ℕ) → IsStep r k → j < k → IsStep r j
step_before r k j s a = inl (step_below r k j s a)

-- the order of two steps by `before`
in_order : {l : Language} (r : OneRun l) (j k : ℕ) → IsStep r j → IsStep r k → r.before (r.spot j) (r.spot k) → j < k
in_order r j k sj sk b = go (compared j k)
  where
    go : (j < k) ⊎ ((j ≡ k) ⊎ (k < j)) → j < k
    go (inl a) = a
    go (inr (inl e)) = absurd (r.irreflexive (r.spot k) (subst (λ i. r.before (r.spot i) (r.spot k)) e b))
    go (inr (inr a)) = absurd (r.irreflexive (r.spot j) (r.transitive (r.spot j) (r.spot k) (r.spot j) b (r.ascends k j a sj)))

-- the last definition before k
abbrev pub NoneDefines : {l : Language} (r : OneRun l) → l.Name → ℕ → ℕ → Type 0
NoneDefines {l = l} r x a k = (i : ℕ) → a < i → i < k → ¬ l.Defines x (r.spot i)

abbrev pub LastBefore : {l : Language} (r : OneRun l) → l.Name → ℕ → Type 0
LastBefore {l = l} r x k = ((i : ℕ) → i < k → ¬ l.Defines x (r.spot i)) ⊎ ((j : ℕ) × (j < k) × l.Defines x (r.spot j) × NoneDefines r x j k)

last_step : {l : Language} (r : OneRun l) (x : l.Name) (k : ℕ) → Dec (l.Defines x (r.spot k)) → LastBefore r x k → LastBefore r x (suc k)
last_step r x k (yes d) _ = inr (k, omega arith, d, λ i a b. absurd (omega arith))
last_step {l = l} r x k (no n) (inl none) = inl (λ i a. go i a (compared i k))
  where
    go : (i : ℕ) → i < suc k → (i < k) ⊎ ((i ≡ k) ⊎ (k < i)) → ¬ l.Defines x (r.spot i)
    go i a (inl b) = none i b
    go i a (inr (inl e)) = subst (λ y. ¬ l.Defines x (r.spot y)) (sym e) n
    go i a (inr (inr b)) = absurd (omega arith)
last_step {l = l} r x k (no n) (inr h) = inr (h.0, omega (arith, h.1), h.2, λ i a b. go i a b (compared i k))
  where
    go : (i : ℕ) → h.0 < i → i < suc k → (i < k) ⊎ ((i ≡ k) ⊎ (k < i)) → ¬ l.Defines x (r.spot i)
    go i a b (inl c) = h.3 i a c
    go i a b (inr (inl e)) = subst (λ y. ¬ l.Defines x (r.spot y)) (sym e) n
    go i a b (inr (inr c)) = absurd (omega arith)

last_before : {l : Language} (r : OneRun l) (x : l.Name) (k : ℕ) → LastBefore r x k
last_before r x zero = inl (λ i a. absurd (omega arith))
last_before {l = l} r x (suc k) = last_step r x k (l.defines? x (r.spot k)) (last_before r x k)

-- step j of q is an item of p with the same value
abbrev pub Meets : {l : Language} (p q : OneRun l) → ℕ → Type 0
Meets p q j = (i : ℕ) × (i < p.count) × (p.spot i ≡ q.spot j) × (p.gave i ≡ q.gave j)

abbrev pub AllMeet : {l : Language} (p q : OneRun l) (Both : l.Spot → Type 0) → ℕ → Type 0
AllMeet p q Both k = (j : ℕ) → j < k → Both (q.spot j) → Meets p q j

-- a step of the slice is due in p, so it is an item there
due_in_first : {l : Language} (p q : OneRun l) (Both : l.Spot → Type 0) (s : Shares l p q Both) (k : ℕ) → IsStep q k → AllMeet p q Both k → Both (q.spot k)
    → q.Top (q.spot k) ⊎ ((j : ℕ) × (j < k) × q.Called (q.spot k) (q.spot j) (l.truth (q.gave j))) → IsDue p (q.spot k)
due_in_first p q Both s k st cl sl (inl t) = inl (s.top (q.spot k) sl t)
due_in_first {l = l} p q Both s k st cl sl (inr c) =
    let e = s.called (q.spot k) (q.spot c.0) (l.truth (q.gave c.0)) sl c.2 in
    let m = cl c.0 c.1 e.0 in
    inr (
      m.0,
      m.1,
      subst (λ y. p.Called (q.spot k) y (l.truth (p.gave m.0))) (sym m.2)
          (subst (λ v. p.Called (q.spot k) (q.spot c.0) (l.truth v)) (sym m.3) e.1),
    )

pub step_in_first : {l : Language} (p q : OneRun l) (Both : l.Spot → Type 0) (s : Shares l p q Both) (k : ℕ) → IsStep q k → AllMeet p q Both k → Both (q.spot k)
    → (i : ℕ) × (i < p.count) × (p.spot i ≡ q.spot k)
step_in_first p q Both s k st cl sl = p.all_at_end s.first_ends (q.spot k) (due_in_first p q Both s k st cl sl (q.cause k st))

-- an item of p in the slice that q places before step k is an item of q before k
due_in_second : {l : Language} (p q : OneRun l) (Both : l.Spot → Type 0) (s : Shares l p q Both) (k : ℕ) → IsStep q k → AllMeet p q Both k
    → (i : ℕ) → i < p.count → Both (p.spot i) → q.before (p.spot i) (q.spot k)
    → ((j : ℕ) → j < i → Both (p.spot j) → q.before (p.spot j) (q.spot k) → (m : ℕ) × (m < k) × (q.spot m ≡ p.spot j))
    → p.Top (p.spot i) ⊎ ((j : ℕ) × (j < i) × p.Called (p.spot i) (p.spot j) (l.truth (p.gave j))) → IsDue q (p.spot i)
due_in_second p q Both s k st cl i a sl b ih (inl t) = inl (s.top' (p.spot i) sl t)
due_in_second {l = l} p q Both s k st cl i a sl b ih (inr c) =
    let e = s.called' (p.spot i) (p.spot c.0) (l.truth (p.gave c.0)) sl c.2 in
    let low = q.called_later (p.spot i) (p.spot c.0) (l.truth (p.gave c.0)) e.1 in
    let m = ih c.0 c.1 e.0 (q.transitive (p.spot c.0) (p.spot i) (q.spot k) low b) in
    let h = cl m.0 m.1 (subst Both (sym m.2) e.0) in
    let same : h.0 ≡ c.0 = same_item p h.0 c.0 h.1 (omega (arith, c.1)) (h.2 ∙ m.2) in
    inr (
      m.0,
      step_below q k m.0 st m.1,
      subst (λ y. q.Called (p.spot i) y (l.truth (q.gave m.0))) (sym m.2)
          (subst (λ v. q.Called (p.spot i) (p.spot c.0) (l.truth v)) (sym (ap p.gave same) ∙ h.3) e.1),
    )
  where
    same_item : (r : OneRun l) (a b : ℕ) → a < r.count → b < r.count → r.spot a ≡ r.spot b → a ≡ b
    same_item r a b u v e = go (compared a b)
      where
        go : (a < b) ⊎ ((a ≡ b) ⊎ (b < a)) → a ≡ b
        go (inl x) = absurd (r.irreflexive (r.spot b) (subst (λ y. r.before y (r.spot b)) e (r.ascends a b x (inl v))))
        go (inr (inl x)) = x
        go (inr (inr x)) = absurd (r.irreflexive (r.spot b) (subst (λ y. r.before (r.spot b) y) e (r.ascends b a x (inl u))))

chain_below : {l : Language} (p q : OneRun l) (Both : l.Spot → Type 0) (s : Shares l p q Both) (k : ℕ) → IsStep q k → AllMeet p q Both k
    → (n i : ℕ) → i < n → i < p.count → Both (p.spot i) → q.before (p.spot i) (q.spot k) → (m : ℕ) × (m < k) × (q.spot m ≡ p.spot i)
chain_below p q Both s k st cl zero i low a sl b = absurd (omega arith)
chain_below p q Both s k st cl (suc n) i low a sl b =
    q.listed (p.spot i) k st b (due_in_second p q Both s k st cl i a sl b
    (λ j c sj bj. chain_below p q Both s k st cl n j (omega arith) (omega arith) sj bj) (p.cause i (inl a)))

pub chain : {l : Language} (p q : OneRun l) (Both : l.Spot → Type 0) (s : Shares l p q Both) (k : ℕ) → IsStep q k → AllMeet p q Both k
    → (i : ℕ) → i < p.count → Both (p.spot i) → q.before (p.spot i) (q.spot k) → (m : ℕ) × (m < k) × (q.spot m ≡ p.spot i)
chain p q Both s k st cl i a sl b = chain_below p q Both s k st cl (suc i) i (omega arith) a sl b

-- the origins of a read: none in both, or the same spot
abbrev pub SameOrigin : {l : Language} (p q : OneRun l) → l.Name → ℕ → ℕ → Type 0
SameOrigin {l = l} p q x i k =
    (((a : ℕ) → a < i → ¬ l.Defines x (p.spot a)) × ((a : ℕ) → a < k → ¬ l.Defines x (q.spot a)))
    ⊎ ((a : ℕ) × (b : ℕ) × (a < i) × (b < k) × l.Defines x (p.spot a) × l.Defines x (q.spot b) × NoneDefines p x a i × NoneDefines q x b k
    × (p.spot a ≡ q.spot b) × (p.gave a ≡ q.gave b))

-- a last definition in p is listed in q before k, and lies in the slice
definition_back : {l : Language} (p q : OneRun l) (Both : l.Spot → Type 0) (s : Shares l p q Both) (k i : ℕ) (x : l.Name) → IsStep q k → AllMeet p q Both k
    → Both (q.spot k) → i < p.count → p.spot i ≡ q.spot k → l.Uses x (q.spot k)
    → (a : ℕ) → a < i → l.Defines x (p.spot a) → NoneDefines p x a i
    → (m : ℕ) × (m < k) × (q.spot m ≡ p.spot a) × p.Flow x (p.spot a) (q.spot k)
definition_back {l = l} p q Both s k i x st cl sl li e u a la d nd =
    let f = subst (λ y. p.Flow x (p.spot a) y) e (p.flow i a x (inl li) la d nd (subst (l.Uses x) (sym e) u)) in
    let g = s.flow' x (p.spot a) (q.spot k) sl f in
    let b = s.flow_order' x (p.spot a) (q.spot k) sl f (subst (λ y. p.before (p.spot a) y) e (p.ascends a i la (inl li))) in
    let m = chain p q Both s k st cl a (omega arith) g.0 b in
    (m.0, m.1, m.2, f)

same_origin_of : {l : Language} (p q : OneRun l) (Both : l.Spot → Type 0) (s : Shares l p q Both) (k i : ℕ) (x : l.Name) → IsStep q k → AllMeet p q Both k
    → Both (q.spot k) → i < p.count → p.spot i ≡ q.spot k → l.Uses x (q.spot k) → LastBefore p x i → LastBefore q x k → SameOrigin p q x i k
same_origin_of p q Both s k i x st cl sl li e u (inl np) (inl nq) = inl (np, nq)
same_origin_of {l = l} p q Both s k i x st cl sl li e u (inr h) (inl nq) =
    let m = definition_back p q Both s k i x st cl sl li e u h.0 h.1 h.2 h.3 in
    absurd (nq m.0 m.1 (subst (l.Defines x) (sym m.2) h.2))
same_origin_of {l = l} p q Both s k i x st cl sl li e u lp (inr h) = go lp
  where
    f : q.Flow x (q.spot h.0) (q.spot k)
    f = q.flow k h.0 x st h.1 h.2 h.3 u

    g : Both (q.spot h.0) × p.Flow x (q.spot h.0) (q.spot k)
    g = s.flow x (q.spot h.0) (q.spot k) sl f

    c : Meets p q h.0
    c = cl h.0 h.1 g.0

    early : c.0 < i
    early = in_order p c.0 i (inl c.1) (inl li) (subst (λ y. p.before (p.spot c.0) y) (sym e)
        (subst (λ y. p.before y (q.spot k)) (sym c.2) (s.flow_order x (q.spot h.0) (q.spot k) sl f (q.ascends h.0 k h.1 st))))

    dc : l.Defines x (p.spot c.0)
    dc = subst (l.Defines x) (sym c.2) h.2

    -- a later last definition in p would stand in q between h.0 and k
    late : (a : ℕ) → a < i → l.Defines x (p.spot a) → NoneDefines p x a i → ¬ (c.0 < a)
    late a la d nd o =
        let m = definition_back p q Both s k i x st cl sl li e u a la d nd in
        let fc = subst (λ y. p.Flow x y (q.spot k)) (sym c.2) g.1 in
        let b = s.use_order x (p.spot c.0) (p.spot a) (q.spot k) sl fc m.3 (p.ascends c.0 a o (inl (omega arith))) in
        let b' = subst (λ y. q.before y (q.spot m.0)) c.2 (subst (λ y. q.before (p.spot c.0) y) (sym m.2) b) in
        let o' = in_order q h.0 m.0 (step_before q k h.0 st h.1) (step_before q k m.0 st m.1) b' in
        h.3 m.0 o' m.1 (subst (l.Defines x) (sym m.2) d)

    fin : (a : ℕ) → a < i → l.Defines x (p.spot a) → NoneDefines p x a i → (c.0 < a) ⊎ ((c.0 ≡ a) ⊎ (a < c.0)) → SameOrigin p q x i k
    fin a la d nd (inl o) = absurd (late a la d nd o)
    fin a la d nd (inr (inl o)) =
        inr (c.0, h.0, early, h.1, dc, h.2, subst (λ y. NoneDefines p x y i) (sym o) nd, h.3, c.2, c.3)
    fin a la d nd (inr (inr o)) = absurd (nd c.0 o early dc)

    go : LastBefore p x i → SameOrigin p q x i k
    go (inl np) = absurd (np c.0 early dc)
    go (inr t) = fin t.0 t.1 t.2 t.3 (compared c.0 t.0)

pub same_origin : {l : Language} (p q : OneRun l) (Both : l.Spot → Type 0) (s : Shares l p q Both) (k i : ℕ) (x : l.Name) → IsStep q k → AllMeet p q Both k
    → Both (q.spot k) → i < p.count → p.spot i ≡ q.spot k → l.Uses x (q.spot k) → SameOrigin p q x i k
same_origin p q Both s k i x st cl sl li e u = same_origin_of p q Both s k i x st cl sl li e u (last_before p x i) (last_before q x k)

-- the state before is the same at what is used, so the part does the same
step_at_most : {l : Language} (r : OneRun l) (k : ℕ) → IsStep r k → k ≤ r.count
step_at_most r k (inl a) = omega arith
step_at_most r k (inr a) = omega arith

same_state : {l : Language} (p q : OneRun l) (i k : ℕ) (x : l.Name) → i ≤ p.count → k ≤ q.count → SameOrigin p q x i k → l.get (p.state_at i) x ≡ l.get (q.state_at k) x
same_state p q i k x li lk (inl n) = p.none_defined i x n.0 ∙ sym (q.none_defined k x n.1)
same_state p q i k x li lk (inr o) = p.last_defined i o.0 x li o.2 o.4 o.6 ∙ (o.9 ∙ sym (q.last_defined k o.1 x lk o.3 o.5 o.7))

pub same_act : {l : Language} (p q : OneRun l) (Both : l.Spot → Type 0) (s : Shares l p q Both) (k i : ℕ) → IsStep q k → AllMeet p q Both k
    → Both (q.spot k) → i < p.count → p.spot i ≡ q.spot k → l.act (q.spot k) (q.state_at k) ≡ l.ok (p.gave i)
same_act {l = l} p q Both s k i st cl sl li e =
    sym (l.act_by_uses (q.spot k) (p.state_at i) (q.state_at k) (λ x u. same_state p q i k x (omega (arith, li)) (step_at_most q k st) (same_origin p q Both s k i x st cl sl li e u)))
    ∙ (subst (λ y. l.act y (p.state_at i) ≡ l.ok (p.gave i)) e (p.item_gives i li))

meets : {l : Language} (p q : OneRun l) (Both : l.Spot → Type 0) (s : Shares l p q Both) (k : ℕ) → k < q.count → AllMeet p q Both k → Both (q.spot k) → Meets p q k
meets {l = l} p q Both s k a cl sl =
    let h = step_in_first p q Both s k (inl a) cl sl in
    (h.0, h.1, h.2, l.ok_inj (p.gave h.0) (q.gave k) (sym (same_act p q Both s k h.0 (inl a) cl sl h.1 h.2) ∙ q.item_gives k a))

all_meet_next : {l : Language} (p q : OneRun l) (Both : l.Spot → Type 0) (s : Shares l p q Both) (k : ℕ) → k < q.count → AllMeet p q Both k
    → (j : ℕ) → j < suc k → Both (q.spot j) → (j < k) ⊎ ((j ≡ k) ⊎ (k < j)) → Meets p q j
all_meet_next p q Both s k a below j b sl (inl c) = below j c sl
all_meet_next p q Both s k a below j b sl (inr (inl e)) =
    subst (Meets p q) (sym e) (meets p q Both s k a below (subst (λ y. Both (q.spot y)) e sl))
all_meet_next p q Both s k a below j b sl (inr (inr c)) = absurd (omega arith)

all_meet : {l : Language} (p q : OneRun l) (Both : l.Spot → Type 0) (s : Shares l p q Both) (k : ℕ) → k ≤ q.count → AllMeet p q Both k
all_meet p q Both s zero a j b sl = absurd (omega arith)
all_meet p q Both s (suc k) a j b sl = all_meet_next p q Both s k (omega arith) (λ i c t. all_meet p q Both s k (omega arith) i c t) j b sl (compared j k)

-- each step of the slice in q, the one at which q stopped too, is an item of p, with the same origins at what it uses,
-- and in q's state it gives p's value, so it is no fault
pub shared : {l : Language} (p q : OneRun l) (Both : l.Spot → Type 0) → Shares l p q Both → (k : ℕ) → IsStep q k → Both (q.spot k)
    → (i : ℕ) × (i < p.count) × (p.spot i ≡ q.spot k) × ((x : l.Name) → l.Uses x (q.spot k) → SameOrigin p q x i k)
    × (l.act (q.spot k) (q.state_at k) ≡ l.ok (p.gave i))
shared p q Both s k st sl =
    let cl = all_meet p q Both s k (step_at_most q k st) in
    let h = step_in_first p q Both s k st cl sl in
    (h.0, h.1, h.2, (λ x u. same_origin p q Both s k h.0 x st cl sl h.1 h.2 u), same_act p q Both s k h.0 st cl sl h.1 h.2)

-- where both end, the last definitions of x in the whole logs agree, for a use at Exit
pub same_final_value : {l : Language} (p q : OneRun l) (Both Sl' : l.Spot → Type 0) → Shares l p q Both → Shares l q p Sl' → ((σ : l.Spot) → Both σ → Sl' σ)
    → (x : l.Name)
    → ((i : ℕ) → i < p.count → l.Defines x (p.spot i) → NoneDefines p x i p.count → Both (p.spot i))
    → ((i : ℕ) → i < q.count → l.Defines x (q.spot i) → NoneDefines q x i q.count → Both (q.spot i))
    → ((i j k : ℕ) → i < p.count → j < p.count → k < q.count → p.spot i ≡ q.spot k → l.Defines x (q.spot k) → NoneDefines q x k q.count → l.Defines x (p.spot j) → NoneDefines p x j p.count
    → p.before (p.spot i) (p.spot j) → q.before (p.spot i) (p.spot j))
    → l.get (p.state_at p.count) x ≡ l.get (q.state_at q.count) x
same_final_value {l = l} p q Both Sl' s s' conv x fp fq use_order = go (last_before p x p.count) (last_before q x q.count)
  where
    pin : (i : ℕ) → i < p.count → Both (p.spot i) → Meets q p i
    pin i a sl = all_meet q p Sl' s' p.count (omega arith) i a (conv (p.spot i) sl)

    qin : (i : ℕ) → i < q.count → Both (q.spot i) → Meets p q i
    qin i a sl = all_meet p q Both s q.count (omega arith) i a sl

    go : LastBefore p x p.count → LastBefore q x q.count → l.get (p.state_at p.count) x ≡ l.get (q.state_at q.count) x
    go (inl a) (inl b) = p.none_defined p.count x a ∙ sym (q.none_defined q.count x b)
    go (inr a) (inl b) = let m = pin a.0 a.1 (fp a.0 a.1 a.2 a.3) in absurd (b m.0 m.1 (subst (l.Defines x) (sym m.2) a.2))
    go (inl a) (inr b) = let m = qin b.0 b.1 (fq b.0 b.1 b.2 b.3) in absurd (a m.0 m.1 (subst (l.Defines x) (sym m.2) b.2))
    go (inr a) (inr b) = both (compared m.0 a.0)
      where
        m : Meets p q b.0
        m = qin b.0 b.1 (fq b.0 b.1 b.2 b.3)

        n : Meets q p a.0
        n = pin a.0 a.1 (fp a.0 a.1 a.2 a.3)

        dm : l.Defines x (p.spot m.0)
        dm = subst (l.Defines x) (sym m.2) b.2

        both : (m.0 < a.0) ⊎ ((m.0 ≡ a.0) ⊎ (a.0 < m.0)) → l.get (p.state_at p.count) x ≡ l.get (q.state_at q.count) x
        both (inr (inl e)) = p.last_defined p.count a.0 x (omega arith) a.1 a.2 a.3 ∙ ((ap p.gave (sym e) ∙ m.3) ∙ sym (q.last_defined q.count b.0 x (omega arith) b.1 b.2 b.3))
        both (inr (inr o)) = absurd (a.3 m.0 o m.1 dm)
        both (inl o) =
            let w = use_order m.0 a.0 b.0 m.1 a.1 b.1 m.2 b.2 b.3 a.2 a.3 (p.ascends m.0 a.0 o (inl a.1)) in
            let w' = subst (λ y. q.before y (q.spot n.0)) m.2 (subst (λ y. q.before (p.spot m.0) y) (sym n.2) w) in
            absurd (b.3 n.0 (in_order q b.0 n.0 (inl b.1) (inl n.1) w') n.1 (subst (l.Defines x) (sym n.2) a.2))
