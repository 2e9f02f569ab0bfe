-- Lists cut behind their first number that clashes with those before it: the leaves of a search that goes on
-- behind no number that clashes (pruning, as in Knuth's backtracking); and what a search for the first whole
-- list that fits says of them.
--
-- cut clash placed rest      == the rest behind the placed numbers, up to its first number that clashes
-- IsLeaf can clash n x       == x is a whole list, cut so
-- IsLive can n               == where anything may stand next, there is a whole list
-- pick b x xs                == x alone where the test holds, else xs
-- cuts can n clash k q       == the leaves that begin with the front q, which lacks k numbers
-- leaves_of can n clash      == all leaves, in order
-- never q c                  == the test by which nothing clashes: the leaves by it are the whole lists
-- IsWithin w clash           == whatever clashes by w clashes by the other test
-- Fails can fits n x         == x isn't a whole list that fits
-- AllFail can fits n xs      == each of them
-- IsFirstFit can fits n clash x == the leaf x fits, and none before it
-- AreSpent can fits n clash tries == there are more leaves than tries, and none of the first `tries` fits
-- FindsFirst, FindsNone, FindsSpent == by each test within `clash`: x is the first leaf that fits; no leaf
--                                      fits; the tries are spent on leaves
-- IsAmongFirst can n clash tries x == x is one of the first `tries` leaves
-- AreSoMany can n clash k == there are k leaves
-- IsFirstLeafAt can n clash q c == the first leaf is q and then c
-- IsFirstClear can n clash == no number of the first leaf clashes with those before it, or there is no leaf
use Rattle.std.specs.Prelude.{◌≡◌, ◌⊎◌, ℕ, zero, suc, ◌<◌, Bool, true, false, List, [], ◌∷◌, ◌++◌, length, Contains, take}
use Rattle.hpr_forest.specs.Choices.{Follows, IsWhole}
use Rattle.hpr_forest.specs.Leaves.{branch}

abbrev pub cut_at : Bool → ℕ → List ℕ → List ℕ
cut_at true c rest = c ∷ []
cut_at false c rest = c ∷ rest

abbrev pub pick : Bool → List ℕ → List (List ℕ) → List (List ℕ)
pick true x xs = x ∷ []
pick false x xs = xs

abbrev pub never : List ℕ → ℕ → Bool
never q c = false

abbrev pub IsWithin : (List ℕ → ℕ → Bool) → (List ℕ → ℕ → Bool) → Type 0
IsWithin w clash = (q : List ℕ) (c : ℕ) → w q c ≡ true → clash q c ≡ true

abbrev pub IsLive : (List ℕ → ℕ → Bool) → ℕ → Type 0
IsLive can n = (q : List ℕ) (c : ℕ) → Follows can [] q → can q c ≡ true → (l : List ℕ) × IsWhole can n l

abbrev pub cut : (List ℕ → ℕ → Bool) → List ℕ → List ℕ → List ℕ
cut clash placed [] = []
cut clash placed (c ∷ rest) = cut_at (clash placed c) c (cut clash (placed ++ c ∷ []) rest)

module _ (can : List ℕ → ℕ → Bool) (n : ℕ) (clash : List ℕ → ℕ → Bool) where
  abbrev pub IsLeaf : List ℕ → Type 0
  IsLeaf x = (l : List ℕ) × IsWhole can n l × (x ≡ cut clash [] l)

  abbrev pub cuts : ℕ → List ℕ → List (List ℕ)
  cuts zero q = q ∷ []
  cuts (suc k) q = branch (λ c. pick (clash q c) (q ++ c ∷ []) (cuts k (q ++ c ∷ []))) (can q) 0 n

  abbrev pub leaves_of : List (List ℕ)
  leaves_of = cuts n []

  abbrev pub IsAmongFirst : ℕ → List ℕ → Type 0
  IsAmongFirst tries x = Contains (take tries leaves_of) x

  abbrev pub AreSoMany : ℕ → Type 0
  AreSoMany k = length leaves_of ≡ k

  abbrev pub IsFirstLeafAt : List ℕ → ℕ → Type 0
  IsFirstLeafAt q c = (back : List (List ℕ)) × (leaves_of ≡ (q ++ c ∷ []) ∷ back)

  abbrev pub IsFirstClear : Type 0
  IsFirstClear = (leaves_of ≡ []) ⊎ ((n ≡ 0) ⊎ ((q : List ℕ) × (c : ℕ) × IsFirstLeafAt q c × (clash q c ≡ false)))

module _ (can : List ℕ → ℕ → Bool) (fits : List ℕ → Type 0) (n : ℕ) where
  abbrev pub Fails : List ℕ → Type 0
  Fails x = IsWhole can n x → ¬ fits x

  abbrev pub AllFail : List (List ℕ) → Type 0
  AllFail xs = (x : List ℕ) → Contains xs x → Fails x

  abbrev pub IsFirstFit : (List ℕ → ℕ → Bool) → List ℕ → Type 0
  IsFirstFit clash x =
      (front back : List (List ℕ)) × (leaves_of can n clash ≡ front ++ x ∷ back) × AllFail front × IsWhole can n x × fits x

  abbrev pub AreSpent : (List ℕ → ℕ → Bool) → ℕ → Type 0
  AreSpent clash tries = (tries < length (leaves_of can n clash)) × AllFail (take tries (leaves_of can n clash))

  abbrev pub FindsFirst : (List ℕ → ℕ → Bool) → List ℕ → Type 0
  FindsFirst clash x = (w : List ℕ → ℕ → Bool) → IsWithin w clash → IsFirstFit w x

  abbrev pub FindsNone : (List ℕ → ℕ → Bool) → Type 0
  FindsNone clash = (w : List ℕ → ℕ → Bool) → IsWithin w clash → AllFail (leaves_of can n w)

  abbrev pub FindsSpent : (List ℕ → ℕ → Bool) → ℕ → Type 0
  FindsSpent clash tries = (w : List ℕ → ℕ → Bool) → IsWithin w clash → AreSpent w tries
