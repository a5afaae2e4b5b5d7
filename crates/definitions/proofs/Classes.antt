-- What a role can't tell apart falls into classes, and class numbers tell the classes.
use Rattle.std.proofs.Common.{◌≡◌, ℕ, ◌<◌, true, List, [], ◌∷◌, length, get_or, Decides, refl}
use Rattle.std.proofs.lemmas.Bool.Decides.{Decides-eqb, Decides-and, Decides-like}
use Rattle.definitions.specs.Lists.{Same, joined, any, firsts}
use Rattle.definitions.specs.Deal.{Deal}
use Rattle.definitions.specs.Play.{Turn, Play, turns_alike, alike, nth, no_play, ClassesTell, ClassesByFirstAppearance, ClassesNumbered}
use Rattle.definitions.proofs.Deciding.{decides_never, same_by_key}
use Rattle.definitions.proofs.Elements.{get_or_in}
use Rattle.definitions.proofs.Firsts.{like_place, like_tells, every_found, firsts_are_first}

-- the moves of a role and what it saw, and with its first class all that it can tell plays apart by
abbrev pub own_turns : ℕ → List Turn → List ℕ
own_turns r ts = joined (λ t. get_or t.moves r 0 ∷ get_or t.seen r 0 ∷ []) ts

abbrev pub own_view : Deal → ℕ → Play → List ℕ
own_view d r p = d.seats.class r p.world ∷ own_turns r p.turns

turns_alike_decides : (r : ℕ) (ts us : List Turn) → Decides (turns_alike r ts us) (own_turns r ts ≡ own_turns r us)
turns_alike_decides r [] [] = ((λ e. refl), λ e. refl)
turns_alike_decides r [] (u ∷ us) = decides_never (λ e. cc)
turns_alike_decides r (t ∷ ts) [] = decides_never (λ e. cc)
turns_alike_decides r (t ∷ ts) (u ∷ us) =
    Decides-like _ (λ h i. h.0.0 i ∷ h.0.1 i ∷ h.1 i) (λ e. ((cc, cc), cc))
    (Decides-and _ _ (Decides-and _ _ (Decides-eqb (get_or t.moves r 0) (get_or u.moves r 0)) (Decides-eqb (get_or t.seen r 0) (get_or u.seen r 0))) (turns_alike_decides r ts us))

pub alike_decides : (d : Deal) (r : ℕ) (p q : Play) → Decides (alike d r p q) (own_view d r p ≡ own_view d r q)
alike_decides d r p q =
    Decides-like _ (λ h i. h.0 i ∷ h.1 i) (λ e. (cc, cc)) (Decides-and _ _ (Decides-eqb (d.seats.class r p.world) (d.seats.class r q.world)) (turns_alike_decides r p.turns q.turns))

pub alike_same : (d : Deal) (r : ℕ) → Same (alike d r)
alike_same d r = same_by_key (own_view d r) (alike d r) (alike_decides d r)

pub classes_tell : ClassesTell
classes_tell d r ps i j h k = like_tells (alike d r) laws (firsts (alike d r) ps) (nth ps i) (nth ps j) (found i h) (found j k)
  where
    laws : Same (alike d r)
    laws = alike_same d r

    found : (n : ℕ) → n < length ps → any (λ q. alike d r q (nth ps n)) (firsts (alike d r) ps) ≡ true
    found n h = every_found (alike d r) laws ps (nth ps n) (get_or_in ps n no_play h)

pub classes_by_first_appearance : ClassesByFirstAppearance
classes_by_first_appearance d r = firsts_are_first (alike d r) (alike_same d r)

pub classes_numbered : ClassesNumbered
classes_numbered d r ps i low =
    let found = like_place (alike d r) (firsts (alike d r) ps) (nth ps i) (every_found (alike d r) (alike_same d r) ps (nth ps i) (get_or_in ps i no_play low)) in
    (found.0, found.1 no_play)
