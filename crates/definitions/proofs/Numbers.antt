-- Terms and their numbers in a table are one to one, and a table of first appearances has a number for each term.
use Rattle.std.proofs.Common.{◌≡◌, ◌<◌, true, List, length, get_or}
use Rattle.std.proofs.lemmas.Bool.Decides.{Decides-like}
use Rattle.definitions.specs.Lists.{In, any, firsts}
use Rattle.definitions.specs.Term.{Term}
use Rattle.definitions.specs.Form.{same_term}
use Rattle.definitions.specs.Numbering.{number, NumbersTell, NamesByFirstAppearance}
use Rattle.definitions.proofs.Elements.{in_any}
use Rattle.definitions.proofs.Firsts.{like_place, like_tells, every_found, firsts_are_first}
use Rattle.definitions.proofs.Relisted.{one_first_list}
use Rattle.definitions.proofs.Spelled.{same_term_decides, same_term_laws}

pub numbers_tell : NumbersTell
numbers_tell ts t u h k = Decides-like _ (same_term_decides t u).0 (same_term_decides t u).1 (like_tells same_term same_term_laws ts t u (found t h) (found u k))
  where
    found : (x : Term) → In x ts → any (λ y. same_term y x) ts ≡ true
    found x h = in_any _ h (same_term_laws.itself x)

pub mentioned_once : (xs : List Term) (x : Term) → In x xs → (number (firsts same_term xs) x < length (firsts same_term xs)) × (get_or (firsts same_term xs) (number (firsts same_term xs) x) x ≡ x)
mentioned_once xs x h =
    let r = like_place same_term (firsts same_term xs) x (every_found same_term same_term_laws xs x h) in
    (r.0, (same_term_decides _ x).0 (r.1 x))

pub names_by_first_appearance : NamesByFirstAppearance
names_by_first_appearance xs =
    let ours = firsts_are_first same_term same_term_laws xs in
    (ours, λ ys h. one_first_list same_term same_term_laws xs ys (firsts same_term xs) h ours)
