-- Steps of a search: what stays when an item is placed or taken back, and what may be placed next.
use Rattle.std.proofs.Common.{◌≡◌, ℕ, ◌-◌, ◌<◌, ◌≤◌, inl, inr, Bool, true, false, Option, Some, None, IfSome, List, [], ◌∷◌, ◌++◌, All, Vec, map, length, set, take, vec_len, vec_capacity, get_or, slice_get, Contains, refl, sym, ap, ◌∙◌, subst, arith, rules, length-append, replicate}
use Rattle.std.specs.Global.{Global}
use Rattle.std.proofs.lemmas.Bool.{cases_lt}
use Rattle.std.proofs.Math.Seq.{take-append_seam}
use Rattle.std.proofs.lemmas.List.{get_or-replicate, get_or_past, length-replicate}
use Rattle.std.proofs.lemmas.List.Elements.{Contains-append_left, Contains-append_right, Contains-get_or}
use Rattle.std.proofs.lemmas.Option.{slice_get_read, get_or_from_slice_get}
use Rattle.hpr_forest.specs.declared.blocks.Blocks.{Blocks}
use Rattle.hpr_forest.specs.declared.pending.Pending.{Pending}
use Rattle.hpr_forest.specs.Choices.{Follows, IsBacktrackFree}
use Rattle.hpr_forest.specs.Forest.{IsDistinct}
use Rattle.hpr_forest.specs.Marks.{IsMarksOf, is_in}
use Rattle.hpr_forest.proofs.Leaves.{follows_push, follows_front, follows_last}
use Rattle.hpr_forest.proofs.Marked.{marks_push, marks_pop}
use Rattle.hpr_forest.proofs.Members.{below, below_has, in_is_in, length-below, no_longer}
use Rattle.hpr_forest.proofs.Unique.{in_none, in_cons, in_first}
use Rattle.hpr_order.specs.Numbers.{ArePlaces}
use Rattle.hpr_order.proofs.ListFacts.{map_append}
use Rattle.hpr_region.specs.declared.plan.Plan.{Plan}
use Rattle.hpr_region.specs.declared.rivals.Rivals.{Rivals}
use Rattle.hpr_region.specs.declared.summary.Summary.{Summary}
use Rattle.hpr_region.specs.Plans.{State, may_follow, number_at, numbers_at, placed_in, size_of}
use Rattle.hpr_region.specs.States.{IsPendingBy, IsState}
use Rattle.hpr_region.specs.Private.Needs.{AreNeeds, AreRivals}
use Rattle.hpr_region.specs.Private.Summaries.{IsSummary}
use Rattle.hpr_region.proofs.Planned.{choices_free}

module _ (can : List ℕ → ℕ → Bool) (n : ℕ) (free : IsBacktrackFree can n) where
  -- the items of a list that follows are new and different, and below n
  pub follows_once : (p l : List ℕ) → Follows can p l → ((x : ℕ) → Contains p x → Contains l x → ⊥) × IsDistinct l
  follows_once p [] f = (λ x h k. in_none x k, tt)
  follows_once p (c ∷ l) f =
      let (apart, once) = follows_once (p ++ c ∷ []) l f.1 in (
        λ x h k. elim (in_cons c x l k) [
          | inl e ↦ (let out = free.fresh p c f.0 in let there : is_in p c ≡ true = in_is_in p c (subst (Contains p) (sym e) h) in let both : true ≡ false = sym there ∙ out in absurd cc)
          | inr later ↦ apart x (Contains-append_left p (c ∷ []) x h) later
        ],
        (λ h. apart c (Contains-append_right p (c ∷ []) c (in_first c [])) h, once),
      )

  pub follows_within : (p l : List ℕ) → Follows can p l → (x : ℕ) → Contains l x → x < n
  follows_within p [] f x h = absurd (in_none x h)
  follows_within p (c ∷ l) f x h = elim (in_cons c x l h) [
    | inl e ↦ subst (λ w. w < n) e (free.within p c f.0)
    | inr later ↦ follows_within (p ++ c ∷ []) l f.1 x later
  ]

  pub follows_length : (l : List ℕ) → Follows can [] l → length l ≤ n
  follows_length l f =
      let (apart, once) = follows_once [] l f in
      omega (arith, length-below n, no_longer l (below n) once (λ k h. below_has n k (follows_within [] l f k h)))

  pub room_for : (q : List ℕ) (c : ℕ) → Follows can [] q → can q c ≡ true → length q < n
  room_for q c f e =
      let more : Follows can [] (q ++ c ∷ []) = follows_push can n [] q c f e in
      omega (arith, follows_length (q ++ c ∷ []) more, length-append q (c ∷ []))

  pub all_within : (l : List ℕ) → Follows can [] l → All (λ x. x < n) l
  all_within l f = λ k d lt. follows_within [] l f (get_or l k d) (Contains-get_or l k d lt)

counted : (choices : Option Blocks) (m n : ℕ) → m ≡ n → IfSome choices (λ b. vec_len b.parents ≡ m) → IfSome choices (λ b. vec_len b.parents ≡ n)
counted None m n e h = tt
counted (Some b) m n e h = h ∙ e

pub plan_free : (plan : Plan) → IsBacktrackFree (may_follow plan) (size_of plan)
plan_free plan =
    let e : vec_len plan.numbers ≡ length plan.numbers.items = search rules in
    choices_free plan.choices (length plan.numbers.items) (counted plan.choices (vec_len plan.numbers) (length plan.numbers.items) e plan.choice_count)

pub placed_once : (plan : Plan) (items : List ℕ) → Follows (may_follow plan) [] items → IsDistinct items
placed_once plan items f = let (apart, once) = follows_once (may_follow plan) (size_of plan) (plan_free plan) [] items f in once

-- there is a place for an item more, as the tables count them
pub more_room : (plan : Plan) (q : List ℕ) (c : ℕ) → Follows (may_follow plan) [] q → may_follow plan q c ≡ true → length q < vec_len plan.flows.slots
more_room plan q c f may =
    let lt = room_for (may_follow plan) (size_of plan) (plan_free plan) q c f may in
    let l : length plan.numbers.items ≡ vec_len plan.numbers = search rules in
    let e = plan.flow_count in
    omega (arith, lt, l, e)

-- an item that may be placed is one of the tables'
pub small_item : (plan : Plan) (q : List ℕ) (c : ℕ) → may_follow plan q c ≡ true → c < vec_len plan.flows.slots
small_item plan q c may =
    let lt = (plan_free plan).within q c may in
    let l : length plan.numbers.items ≡ vec_len plan.numbers = search rules in
    let e = plan.flow_count in
    omega (arith, lt, l, e)

-- there are as many marks as the tables have items
pub marks_counted : (plan : Plan) (marks : Vec Bool Global) (row : List Bool) → row ≡ marks.items → vec_len marks ≡ size_of plan → length row ≡ vec_len plan.flows.slots
marks_counted plan marks row is n =
    let l : length marks.items ≡ vec_len marks = search rules in
    let k : length plan.numbers.items ≡ vec_len plan.numbers = search rules in
    let e = plan.flow_count in
    ap length is ∙ omega (arith, n, l, k, e)

pub number_is : (xs : List ℕ) (c n : ℕ) → c < length xs → n ≡ get_or xs c n → n ≡ get_or xs c 0
number_is xs c n lt e = sym (get_or_from_slice_get xs c n 0 (slice_get_read xs (length xs) c n refl lt e))

module _ (plan : Plan) (places : List (Option ℕ)) where
  pub pushed : (items placed items' placed' : Vec ℕ Global) (marks marks' : Vec Bool Global) (summary summary' : Summary) (rivals : Rivals) (needs needs' : Vec ℕ Global) (pending pending' : Option Pending) (c n : ℕ) → IsState plan places items placed marks summary rivals needs pending → may_follow plan items.items c ≡ true → n ≡ number_at plan c
      → items'.items ≡ items.items ++ c ∷ [] → vec_capacity items' ≡ vec_capacity items → placed'.items ≡ placed.items ++ n ∷ [] → vec_capacity placed' ≡ vec_capacity placed
      → marks'.items ≡ set marks.items c true → vec_len marks' ≡ vec_len marks
      → ((q : List ℕ) → IsSummary plan.flows q summary → is_in q c ≡ false → IsSummary plan.flows (q ++ c ∷ []) summary') → AreNeeds plan.flows rivals items'.items needs'.items
      → IsPendingBy plan.choices (items.items ++ c ∷ []) pending' → IsState plan places items' placed' marks' summary' rivals needs' pending'
  pushed items placed items' placed' marks marks' summary summary' rivals needs needs' pending pending' c n s may is grown room grown' room' marked row summed counted waits =
      let free = plan_free plan in
      let small : c < size_of plan = free.within items.items c may in
      let l : length marks.items ≡ vec_len marks = search rules in
      record {
        front = subst (Follows (may_follow plan) []) (sym grown) (follows_push (may_follow plan) (size_of plan) [] items.items c s.front may);
        numbers = grown' ∙ ap (λ z. z ++ n ∷ []) s.numbers ∙ ap (λ z. numbers_at plan items.items ++ z ∷ []) is ∙ sym (ap (numbers_at plan) grown ∙ map_append (number_at plan) items.items (c ∷ []));
        row = row ∙ s.row;
        marked = marks_push marks.items marks'.items items.items items'.items c (omega (arith, small, l, s.row)) s.marked marked grown;
        items_room = omega (arith, s.items_room, room);
        placed_room = omega (arith, s.placed_room, room');
        placing = s.placing;
        rivalry = s.rivalry;
        counted = counted;
        summed = subst (λ q. IsSummary plan.flows q summary') (sym grown) (summed items.items s.summed (free.fresh items.items c may));
        waits = subst (λ q. IsPendingBy plan.choices q pending') (sym grown) waits;
      }

  pub popped : (items placed items' placed' : Vec ℕ Global) (marks marks' : Vec Bool Global) (summary summary' : Summary) (rivals : Rivals) (needs needs' : Vec ℕ Global) (pending pending' : Option Pending) (c : ℕ) → IsState plan places items placed marks summary rivals needs pending
      → items.items ≡ items'.items ++ c ∷ [] → vec_capacity items' ≡ vec_capacity items → placed'.items ≡ numbers_at plan items'.items → vec_capacity placed' ≡ vec_capacity placed
      → marks'.items ≡ set marks.items c false → vec_len marks' ≡ vec_len marks
      → ((q : List ℕ) → IsSummary plan.flows (q ++ c ∷ []) summary → IsSummary plan.flows q summary') → AreNeeds plan.flows rivals items'.items needs'.items
      → IsPendingBy plan.choices items'.items pending' → IsState plan places items' placed' marks' summary' rivals needs' pending'
  popped items placed items' placed' marks marks' summary summary' rivals needs needs' pending pending' c s split room numbers room' marked row summed counted waits =
      let free = plan_free plan in
      let whole : Follows (may_follow plan) [] (items'.items ++ c ∷ []) = subst (Follows (may_follow plan) []) split s.front in
      let may : may_follow plan items'.items c ≡ true = follows_last (may_follow plan) (size_of plan) [] items'.items c whole in
      let small : c < size_of plan = free.within items'.items c may in
      let l : length marks.items ≡ vec_len marks = search rules in
      record {
        front = follows_front (may_follow plan) (size_of plan) [] items'.items (c ∷ []) whole;
        numbers = numbers;
        row = row ∙ s.row;
        marked = marks_pop marks.items marks'.items items'.items items.items c (omega (arith, small, l, s.row)) s.marked split (free.fresh items'.items c may) marked;
        items_room = omega (arith, s.items_room, room);
        placed_room = omega (arith, s.placed_room, room');
        placing = s.placing;
        rivalry = s.rivalry;
        counted = counted;
        summed = summed items'.items (subst (λ q. IsSummary plan.flows q summary) split s.summed);
        waits = waits;
      }

-- what is known when the last item is taken back
pub record IsFrontKept (plan : Plan) (marks : Vec Bool Global) (front : List ℕ) (c : ℕ) : Type 0 where
  pub may : may_follow plan front c ≡ true
  pub marked : IsMarksOf (set marks.items c false) front
  pub within : c < size_of plan
  pub once : IsDistinct front
  pub fresh : is_in front c ≡ false
  pub room : length front < vec_len plan.flows.slots

pub front_kept : (plan : Plan) (places : List (Option ℕ)) (items placed : Vec ℕ Global) (marks : Vec Bool Global) (summary : Summary) (rivals : Rivals) (needs : Vec ℕ Global) (pending : Option Pending) (front : List ℕ) (c : ℕ)
    → IsState plan places items placed marks summary rivals needs pending → items.items ≡ front ++ c ∷ [] → IsFrontKept plan marks front c
front_kept plan places items placed marks summary rivals needs pending front c s split =
    let free = plan_free plan in
    let whole : Follows (may_follow plan) [] (front ++ c ∷ []) = subst (Follows (may_follow plan) []) split s.front in
    let may : may_follow plan front c ≡ true = follows_last (may_follow plan) (size_of plan) [] front c whole in
    let before : Follows (may_follow plan) [] front = follows_front (may_follow plan) (size_of plan) [] front (c ∷ []) whole in
    let small : c < size_of plan = free.within front c may in
    let l : length marks.items ≡ vec_len marks = search rules in
    record {
      may = may;
      marked = marks_pop marks.items (set marks.items c false) front items.items c (omega (arith, small, l, s.row)) s.marked split (free.fresh front c may) refl;
      within = small;
      once = placed_once plan front before;
      fresh = free.fresh front c may;
      room = more_room plan front c before may;
    }

-- the front of the images is the image of the front
pub front_taken : (f : ℕ → ℕ) (items front : List ℕ) (c m : ℕ) (placed placed' : List ℕ) → items ≡ front ++ c ∷ [] → placed ≡ map f items → m ≡ length placed → placed' ≡ take (m - 1) placed → placed' ≡ map f front
front_taken f items front c m placed placed' split numbers len taken =
    let all : placed ≡ map f front ++ f c ∷ [] = numbers ∙ ap (map f) split ∙ map_append f front (c ∷ []) in
    let count : m - 1 ≡ length (map f front) = omega (arith, len, ap length all, length-append (map f front) (f c ∷ [])) in
    taken ∙ ap (λ k. take k placed) count ∙ ap (take (length (map f front))) all ∙ take-append_seam (map f front) (f c ∷ [])

pub last_small : (plan : Plan) (items front : List ℕ) (c : ℕ) → Follows (may_follow plan) [] items → items ≡ front ++ c ∷ [] → c < size_of plan
last_small plan items front c f split =
    let free = plan_free plan in
    free.within front c (follows_last (may_follow plan) (size_of plan) [] front c (subst (Follows (may_follow plan) []) split f))

-- the numbers of what is placed
pub placed_more : (old new : State) (item child : ℕ) → new.plan ≡ old.plan → new.placed ≡ old.placed ++ item ∷ [] → number_at old.plan item ≡ child → placed_in new ≡ placed_in old ++ child ∷ []
placed_more old new item child same grown is =
    ap (λ p. numbers_at p new.placed) same ∙ ap (numbers_at old.plan) grown ∙ map_append (number_at old.plan) old.placed (item ∷ []) ∙ ap (λ z. numbers_at old.plan old.placed ++ z ∷ []) is

pub placed_less : (old new : State) (item child : ℕ) → new.plan ≡ old.plan → old.placed ≡ new.placed ++ item ∷ [] → child ≡ number_at new.plan item → placed_in old ≡ placed_in new ++ child ∷ []
placed_less old new item child same split is =
    ap (numbers_at old.plan) split ∙ map_append (number_at old.plan) new.placed (item ∷ []) ∙ ap (λ p. numbers_at p new.placed ++ number_at p item ∷ []) (sym same)
    ∙ ap (λ z. numbers_at new.plan new.placed ++ z ∷ []) (sym is)

pub number_of : (plan : Plan) (item child : ℕ) → slice_get plan.numbers.items item ≡ Some child → number_at plan item ≡ child
number_of plan item child e = get_or_from_slice_get plan.numbers.items item child 0 e

-- a blank row reads as blank, within it and behind it
all_blank : {X : Type 0} (n i : ℕ) (x : X) → get_or (replicate n x) i x ≡ x
all_blank n i x = elim (cases_lt i n) [
  | inl l ↦ get_or-replicate n i x x l
  | inr past ↦ get_or_past (replicate n x) i x (omega (arith, past, length-replicate n x))
]

-- nothing is placed, and nothing is needed
pub nothing_placed : (plan : Plan) (places : List (Option ℕ)) (items placed : Vec ℕ Global) (marks : Vec Bool Global) (summary : Summary) (rivals : Rivals) (needs : Vec ℕ Global) (pending : Option Pending) (n m : ℕ) → n ≡ size_of plan → items.items ≡ [] → n ≤ vec_capacity items → placed.items ≡ [] → n ≤ vec_capacity placed
    → marks.items ≡ replicate n false → vec_len marks ≡ n → ArePlaces plan.numbers.items places → IsSummary plan.flows [] summary → AreRivals plan.flows rivals → m ≡ vec_len plan.flows.slots → needs.items ≡ replicate m 0 → vec_len needs ≡ m
    → IsPendingBy plan.choices [] pending → IsState plan places items placed marks summary rivals needs pending
nothing_placed plan places items placed marks summary rivals needs pending n m size none room none' room' blank row placing summed rivalry slots zeros count waits = record {
  front = subst (Follows (may_follow plan) []) (sym none) tt;
  numbers = none' ∙ sym (ap (numbers_at plan) none);
  row = row ∙ size;
  marked = λ x. ap (λ (ms : List Bool). get_or ms x false) blank ∙ all_blank n x false ∙ sym (ap (λ (xs : List ℕ). is_in xs x) none);
  items_room = omega (arith, size, room);
  placed_room = omega (arith, size, room');
  placing = placing;
  summed = subst (λ (xs : List ℕ). IsSummary plan.flows xs summary) (sym none) summed;
  rivalry = rivalry;
  counted = subst (λ (xs : List ℕ). AreNeeds plan.flows rivals xs needs.items) (sym none)
      (record { count = (let l : length needs.items ≡ vec_len needs = search rules in l ∙ count ∙ slots); each = λ g l. ap (λ (xs : List ℕ). get_or xs g 0) zeros ∙ all_blank m g 0 });
  waits = subst (λ (xs : List ℕ). IsPendingBy plan.choices xs pending) (sym none) waits;
}
