-- What becomes of a program by each command, as far as the tests that are made decide it.
use Rattle.std.proofs.Common.{◌≡◌, ℕ, ◌+◌, Bool, true, false, not, if◌then◌else◌, Option, Some, None, Err, List, ◌⊎◌, inl, inr, refl, ap, sym, subst, ◌∙◌, arith}
use Rattle.std.specs.Option.{option_map}
use Rattle.std.proofs.lemmas.Option.{same_Some}
use Rattle.hpr_terms.specs.declared.limits.TheConstants.{MAX_LEVELS}
use Rattle.hpr_terms.specs.declared.tag.Tag.{Tag}
use Rattle.hpr_syntax.specs.declared.tree.Stmt.{Stmt}
use Rattle.hpr_syntax.specs.declared.rows.Content.{Content}
use Rattle.hpr_syntax.specs.declared.shape.ShapeError.{ShapeError}
use Rattle.hpr_syntax.specs.Body.{Body, done, part_count}
use Rattle.hpr_syntax.specs.BodyOf.{before}
use Rattle.hpr_syntax.specs.Issued.{raised}
use Rattle.hpr_syntax.specs.Parts.{find_stmt}
use Rattle.hpr_syntax.specs.Rows.{content_of, made}
use Rattle.hpr_syntax.specs.Tree.{Tree}
use Rattle.hpr_syntax.specs.Shape.{IsProgram, shape, first_deep}
use Rattle.hpr_edit.specs.declared.command.Place.{Place}
use Rattle.hpr_edit.specs.declared.command.Command.TheVariants.{Insert, Delete, Move, Set, Wrap, Unwrap, Finals}
use Rattle.hpr_edit.specs.declared.command.Inverse.TheVariants.{Remove, PutBack, MoveBack, SetBack, Lift, Rewrap, FinalsBack}
use Rattle.hpr_edit.specs.declared.command.EditError.{EditError}
use Rattle.hpr_edit.specs.declared.command.EditError.TheVariants.{NoTag, IntoItself, NoPlace, KindDiffers, SerialsSpent, Shape, Memory}
use Rattle.hpr_edit.specs.Places.{width, is_place, place_of}
use Rattle.hpr_edit.specs.Changes.{at_part, at_place, gone, first_block, second_block, saying, wrapped, unwrapped}
use Rattle.hpr_edit.specs.Edited.{Edited, becomes, refused, refuse, named, settled, edited, new_tag, next_tag, is_spent, same_kind, is_action, stands_in}
use Rattle.hpr_edit.specs.InPlace.{times, Settles, Refused}
use Rattle.hpr_edit.specs.Tested.{left_at, below, room_at, none_left, said_refusal, new_refusal, misplaced, names_alone}
use Rattle.hpr_edit.proofs.Around.{place_in, place_plug, times_plug, times_head, FoundIn, found_in}
use Rattle.hpr_edit.proofs.Tags.{once}
use Rattle.hpr_edit.proofs.Undone.{Known, known}
use Rattle.hpr_edit.proofs.Ends.{spare, settled_fits, settled_why}
use Rattle.hpr_edit.proofs.Shaped.{insert_tested, delete_fits, move_tested, set_tested, wrap_tested, unwrap_fits, finals_alone}

passes : (why : EditError) (b : Bool) (next : Edited) → b ≡ false → refuse why b next ≡ next
passes why b next h = rw h refl

refuses : (why : EditError) (b : Bool) (next : Edited) → b ≡ true → refuse why b next ≡ refused why
refuses why b next h = rw h refl

-- why a part isn't put at a place
abbrev pub judged : Bool → Option ShapeError → Option EditError
judged there o = if there then option_map Shape o else Some NoPlace

fits : (there : Bool) (o : Option ShapeError) → judged there o ≡ None → (there ≡ true) × (o ≡ None)
fits true None h = (refl, refl)
fits true (Some e) h = absurd cc
fits false o h = absurd cc

fails : (there : Bool) (o : Option ShapeError) (why : EditError) → judged there o ≡ Some why
    → ((there ≡ false) × (why ≡ NoPlace)) ⊎ ((there ≡ true) × (e : ShapeError) × (o ≡ Some e) × (why ≡ Shape e))
fails true None why h = absurd cc
fails true (Some e) why h = inr (refl, e, refl, sym (same_Some (Shape e) why h))
fails false o why h = inl (refl, sym (same_Some NoPlace why h))

module _ (p : Tree) (is : IsProgram p) where
  -- a part that is found has a place
  module _ (t : Tag) (s : Stmt) (fs : find_stmt t p.body ≡ Some s) where
    pub placed : (old : Place) × (place_of t p.body ≡ Some old)
    placed =
        let f : FoundIn t p.body s = found_in t p.body s fs in (
          place_in None 0 f.around,
          ap (place_of t) f.is
              ∙ place_plug t None 0 f.around s f.rest
              (omega (arith, once p is t, ap (times t) f.is, times_plug t f.around (before s f.rest), times_head t s f.rest f.tag)) f.tag,
        )

    -- what is next of it
    pub named_next : (next : Stmt → Place → Edited) (old : Place) → place_of t p.body ≡ Some old → named t p.body next ≡ next s old
    named_next next old ps = rw (fs, ps) refl

  -- Insert
  module _ (place : Place) (c : Content) (author : ℕ) (t : Tag) (there : is_place place p.body ≡ true) (new : Some t ≡ new_tag author p.issued) where
    abbrev pub after_insert : Tag → Tree
    after_insert u = record { issued = raised u.author u.serial p.issued; body = at_place place (before (made u c done done)) p.body; finals = p.finals }

    abbrev pub insert_refusal : Tag → Option ShapeError
    insert_refusal u = new_refusal (none_left (room_at place.parent p.body) u) u c (part_count p.body + 1)

    next_insert : edited p (Insert place c) author ≡ settled (after_insert (next_tag author p.issued)) (Remove (next_tag author p.issued))
    next_insert =
        let s = spare (is_spent author p.issued) t (next_tag author p.issued) new in
        passes NoPlace (not (is_place place p.body)) _ (ap not there) ∙ passes SerialsSpent (is_spent author p.issued) _ s.0

    same_insert : next_tag author p.issued ≡ t
    same_insert = sym (spare (is_spent author p.issued) t (next_tag author p.issued) new).1

    pub insert_becomes : insert_refusal t ≡ None → edited p (Insert place c) author ≡ becomes (after_insert t) (Remove t)
    insert_becomes n =
        next_insert
        ∙ settled_fits (after_insert (next_tag author p.issued)) (Remove (next_tag author p.issued)) (insert_tested p is place c author there ∙ ap insert_refusal same_insert ∙ n)
        ∙ ap (λ u. becomes (after_insert u) (Remove u)) same_insert

    pub insert_refused : (why : ShapeError) → insert_refusal t ≡ Some why → edited p (Insert place c) author ≡ refused (Shape why)
    insert_refused why n =
        next_insert
        ∙ settled_why (after_insert (next_tag author p.issued)) (Remove (next_tag author p.issued)) why (insert_tested p is place c author there ∙ ap insert_refusal same_insert ∙ n)

  -- what is known of a part that is found
  module _ (t : Tag) (s : Stmt) (old : Place) (fs : find_stmt t p.body ≡ Some s) (ps : place_of t p.body ≡ Some old) where
    at : Known t p.body s old
    at = known t p.body s old (once p is) fs ps

    -- Delete
    pub delete_becomes : (author : ℕ) → edited p (Delete t) author ≡ becomes (record p { body = at_part t gone p.body }) (PutBack old s)
    delete_becomes author = named_next t s fs _ old ps ∙ settled_fits _ _ (delete_fits p is t s old at)

    -- Unwrap
    pub unwrap_becomes : (author : ℕ) → is_action (content_of s) ≡ false
        → edited p (Unwrap t) author ≡ becomes (record p { body = at_part t unwrapped p.body }) (Rewrap old t (content_of s) (width (first_block s)) (width (second_block s)))
    unwrap_becomes author h = named_next t s fs _ old ps ∙ passes (KindDiffers t) (is_action (content_of s)) _ h ∙ settled_fits _ _ (unwrap_fits p is t s old at)

    -- Move
    module _ (place : Place) (author : ℕ) where
      abbrev pub left : Body
      left = at_part t gone p.body

      module _ (out : stands_in place.parent s ≡ false) where
        next_move : is_place place left ≡ true → edited p (Move t place) author ≡ settled (record p { body = at_place place (before s) left }) (MoveBack t old)
        next_move there =
            named_next t s fs _ old ps ∙ passes (IntoItself t) (stands_in place.parent s) _ out ∙ passes NoPlace (not (is_place place left)) _ (ap not there)

        pub move_becomes : misplaced place s left ≡ None → edited p (Move t place) author ≡ becomes (record p { body = at_place place (before s) left }) (MoveBack t old)
        move_becomes n =
            let k = fits (is_place place left) _ n in
            next_move k.0 ∙ settled_fits _ _ (move_tested p is t s old place at k.0 ∙ k.1)

        pub move_refused : (why : EditError) → misplaced place s left ≡ Some why → Refused (edited p (Move t place) author) why
        move_refused why n = elim (fails (is_place place left) _ why n) [
          | inl k ↦
              subst (Refused (edited p (Move t place) author)) (sym k.1)
              (named_next t s fs _ old ps ∙ passes (IntoItself t) (stands_in place.parent s) _ out ∙ refuses NoPlace (not (is_place place left)) _ (ap not k.0))
          | inr k ↦ subst (Refused (edited p (Move t place) author)) (sym k.3) (next_move k.0 ∙ settled_why _ _ k.1 (move_tested p is t s old place at k.0 ∙ k.2))
        ]

  module _ (t : Tag) (s : Stmt) (c : Content) (author : ℕ) (fs : find_stmt t p.body ≡ Some s) where
    -- Set
    pub set_differs : same_kind c (content_of s) ≡ false → edited p (Set t c) author ≡ refused (KindDiffers t)
    set_differs h = named_next t s fs _ (placed t s fs).0 (placed t s fs).1 ∙ refuses (KindDiffers t) (not (same_kind c (content_of s))) _ (ap not h)

    module _ (same : same_kind c (content_of s) ≡ true) where
      next_set : edited p (Set t c) author ≡ settled (record p { body = at_part t (saying c) p.body }) (SetBack t (content_of s))
      next_set = named_next t s fs _ (placed t s fs).0 (placed t s fs).1 ∙ passes (KindDiffers t) (not (same_kind c (content_of s))) _ (ap not same)

      pub set_becomes : said_refusal t c ≡ None → edited p (Set t c) author ≡ becomes (record p { body = at_part t (saying c) p.body }) (SetBack t (content_of s))
      set_becomes n = next_set ∙ settled_fits _ _ (set_tested p is t s (placed t s fs).0 c (at t s (placed t s fs).0 fs (placed t s fs).1) same ∙ n)

      pub set_refused : (why : ShapeError) → said_refusal t c ≡ Some why → edited p (Set t c) author ≡ refused (Shape why)
      set_refused why n = next_set ∙ settled_why _ _ why (set_tested p is t s (placed t s fs).0 c (at t s (placed t s fs).0 fs (placed t s fs).1) same ∙ n)

    -- Wrap
    pub wrap_differs : is_action c ≡ true → edited p (Wrap t c) author ≡ refused (KindDiffers t)
    wrap_differs h = named_next t s fs _ (placed t s fs).0 (placed t s fs).1 ∙ refuses (KindDiffers t) (is_action c) _ h

    module _ (holds : is_action c ≡ false) where
      pub wrap_spent : is_spent author p.issued ≡ true → edited p (Wrap t c) author ≡ refused SerialsSpent
      wrap_spent h =
          named_next t s fs _ (placed t s fs).0 (placed t s fs).1 ∙ passes (KindDiffers t) (is_action c) _ holds ∙ refuses SerialsSpent (is_spent author p.issued) _ h

      module _ (u : Tag) (new : Some u ≡ new_tag author p.issued) where
        abbrev pub after_wrap : Tag → Tree
        after_wrap v = record { issued = raised v.author v.serial p.issued; body = at_part t (wrapped v c) p.body; finals = p.finals }

        abbrev pub wrap_refusal : Tag → Option ShapeError
        wrap_refusal v = new_refusal (first_deep (below (left_at t MAX_LEVELS p.body)) (before s done)) v c (part_count p.body + 1)

        next_wrap : edited p (Wrap t c) author ≡ settled (after_wrap (next_tag author p.issued)) (Lift (next_tag author p.issued))
        next_wrap =
            let x = spare (is_spent author p.issued) u (next_tag author p.issued) new in
            named_next t s fs _ (placed t s fs).0 (placed t s fs).1
            ∙ passes (KindDiffers t) (is_action c) _ holds
            ∙ passes SerialsSpent (is_spent author p.issued) _ x.0

        same_wrap : next_tag author p.issued ≡ u
        same_wrap = sym (spare (is_spent author p.issued) u (next_tag author p.issued) new).1

        wrap_is : shape (after_wrap (next_tag author p.issued)) ≡ wrap_refusal u
        wrap_is = wrap_tested p is t s (placed t s fs).0 c author (at t s (placed t s fs).0 fs (placed t s fs).1) holds ∙ ap wrap_refusal same_wrap

        pub wrap_becomes : wrap_refusal u ≡ None → edited p (Wrap t c) author ≡ becomes (after_wrap u) (Lift u)
        wrap_becomes n =
            next_wrap ∙ settled_fits (after_wrap (next_tag author p.issued)) (Lift (next_tag author p.issued)) (wrap_is ∙ n) ∙ ap (λ v. becomes (after_wrap v) (Lift v)) same_wrap

        pub wrap_refused : (why : ShapeError) → wrap_refusal u ≡ Some why → edited p (Wrap t c) author ≡ refused (Shape why)
        wrap_refused why n = next_wrap ∙ settled_why (after_wrap (next_tag author p.issued)) (Lift (next_tag author p.issued)) why (wrap_is ∙ n)

  -- Finals
  pub finals_become : (names : List (List ℕ)) (author : ℕ) → shape (names_alone names) ≡ None → edited p (Finals names) author ≡ becomes (record p { finals = names }) (FinalsBack p.finals)
  finals_become names author n = settled_fits _ _ (finals_alone p is names ∙ n)

  pub finals_refused : (names : List (List ℕ)) (author : ℕ) (why : ShapeError) → shape (names_alone names) ≡ Some why → edited p (Finals names) author ≡ refused (Shape why)
  finals_refused names author why n = settled_why _ _ why (finals_alone p is names ∙ n)

  pub finals_end : (names copy : List (List ℕ)) (author : ℕ) (why : EditError) → copy ≡ names → Settles (names_alone copy) (Err why) → Refused (edited p (Finals names) author) why
  finals_end names copy author Memory e h = tt
  finals_end names copy author (Shape why) e h = finals_refused names author why (ap (λ l. shape (names_alone l)) (sym e) ∙ h)
  finals_end names copy author (NoTag t) e h = absurd h
  finals_end names copy author (IntoItself t) e h = absurd h
  finals_end names copy author NoPlace e h = absurd h
  finals_end names copy author (KindDiffers t) e h = absurd h
  finals_end names copy author SerialsSpent e h = absurd h
