-- What rules over numbers speak of is mentioned in the forms that they come from, and has a number in their tables.
use Rattle.std.proofs.Common.{◌≡◌, ℕ, ◌<◌, List, [], ◌∷◌, map, length, sym, ap, ◌∙◌, subst, inl, inr, arith}
use Rattle.std.proofs.lemmas.List.Folds.{flat_map-map}
use Rattle.definitions.specs.Term.{Term}
use Rattle.definitions.specs.Form.{Atom, Literal, settled, bare, negated, Rule, Form, declares, opens, rules}
use Rattle.definitions.specs.Lists.{In, here, there, joined}
use Rattle.definitions.specs.Level.{shape, about, named, body}
use Rattle.definitions.specs.Numbering.{Mention, a_role, a_fact, in_atom, in_literal, in_rule, in_form, mentions, roles_in, facts_in, Tables, tables, rules_of, number, role_number, numbered_atom, numbered_literal, numbered}
use Rattle.definitions.specs.Ruleset.{Ruled, declared, rule_of, game}
use Rattle.definitions.proofs.Listed.{either_in, in_right, in_joined, joined_in}
use Rattle.definitions.proofs.Mapped.{map_joined}
use Rattle.definitions.proofs.Upto.{map_in}
use Rattle.definitions.proofs.Numbers.{mentioned_once}
use Rattle.definitions.proofs.Verdicts.{forms_of}

in_one : {X : Type 0} {x y : X} → In x (y ∷ []) → y ≡ x
in_one i = elim (either_in i) [ inl e ↦ e | inr j ↦ elim j [ ] ]

abbrev pub Within : List Mention → List Mention → Type 0
Within ms ns = (m : Mention) → In m ms → In m ns

module _ (t : Tables) where
  -- the atom is the numbered form of one whose mentions are among ms
  abbrev pub Spoken : Atom ℕ → List Mention → Type 0
  Spoken a ms = (b : Atom Term) × (numbered_atom t b ≡ a) × Within (in_atom b) ms

  literal_spoken : (l : Literal Term) {a : Atom ℕ} → In a (named (numbered_literal t l)) → Spoken a (in_literal l)
  literal_spoken (settled b) i = elim i [ ]
  literal_spoken (bare b) i = (b, in_one i, λ m j. j)
  literal_spoken (negated b) i = (b, in_one i, λ m j. j)

  body_numbered : (r : Rule Term) → body (numbered t r) ≡ map (numbered_literal t) (joined (λ p. p) r.parts)
  body_numbered r = flat_map-map (λ p. p) (map (numbered_literal t)) r.parts ∙ sym (map_joined (numbered_literal t) (λ p. p) r.parts)

  rule_spoken : (r : Rule Term) {a : Atom ℕ} → In a (joined named (body (numbered t r))) → Spoken a (in_rule r)
  rule_spoken r {a} i =
      let (k, among, by) = joined_in named (body (numbered t r)) i in
      let (l, from, is) = map_in (numbered_literal t) _ (subst (In k) (body_numbered r) among) in
      let (p, part, l_in) = joined_in (λ p. p) r.parts from in
      let (b, same, within) = literal_spoken l (subst (λ k. In a (named k)) is by) in
      (b, same, λ m j. in_right (in_atom r.head) (in_joined (joined in_literal) part (in_joined in_literal l_in (within m j))))

  numbered_knows : (b : Atom Term) {r p : ℕ} → numbered_atom t b ≡ Atom.knows r p → (s : Term) × In (a_role s) (in_atom b) × (role_number t s ≡ r)
  numbered_knows (Atom.role s) e = absurd (omega (arith, ap (λ a. (shape a).0) e))
  numbered_knows (Atom.true_now f) e = absurd (omega (arith, ap (λ a. (shape a).0) e))
  numbered_knows (Atom.does s m) e = absurd (omega (arith, ap (λ a. (shape a).0) e))
  numbered_knows (Atom.knows s q) e = (s, here, ap (λ a. (shape a).1) e)
  numbered_knows (Atom.common q) e = absurd (omega (arith, ap (λ a. (shape a).0) e))
  numbered_knows (Atom.legal s m) e = absurd (omega (arith, ap (λ a. (shape a).0) e))
  numbered_knows (Atom.goal s v) e = absurd (omega (arith, ap (λ a. (shape a).0) e))
  numbered_knows Atom.terminal e = absurd (omega (arith, ap (λ a. (shape a).0) e))
  numbered_knows (Atom.fact q) e = absurd (omega (arith, ap (λ a. (shape a).0) e))
  numbered_knows (Atom.next f) e = absurd (omega (arith, ap (λ a. (shape a).0) e))
  numbered_knows (Atom.sees s x) e = absurd (omega (arith, ap (λ a. (shape a).0) e))

  numbered_about : (b : Atom Term) {p : ℕ} → In (Atom.fact p) (about (numbered_atom t b)) → (q : Term) × In (a_fact q) (in_atom b) × (number t.facts q ≡ p)
  numbered_about (Atom.role s) i = elim i [ ]
  numbered_about (Atom.true_now f) i = elim i [ ]
  numbered_about (Atom.does s m) i = elim i [ ]
  numbered_about (Atom.knows s q) i = (q, there here, ap (λ a. (shape a).1) (in_one i))
  numbered_about (Atom.common q) i = (q, here, ap (λ a. (shape a).1) (in_one i))
  numbered_about (Atom.legal s m) i = elim i [ ]
  numbered_about (Atom.goal s v) i = elim i [ ]
  numbered_about Atom.terminal i = elim i [ ]
  numbered_about (Atom.fact q) i = elim i [ ]
  numbered_about (Atom.next f) i = elim i [ ]
  numbered_about (Atom.sees s x) i = elim i [ ]

pub rules_numbered : (t : Tables) (fs : List Ruled) → joined (rule_of t) fs ≡ map (numbered t) (joined rules_of (forms_of fs))
rules_numbered t fs = sym (ap (map (numbered t)) (flat_map-map rules_of (λ f. f.form) fs) ∙ map_joined (numbered t) (λ f. rules_of f.form) fs)

form_rule : (f : Form) {r : Rule Term} → In r (rules_of f) → Within (in_rule r) (in_form f)
form_rule (declares s) i = elim i [ ]
form_rule (opens x) i = elim i [ ]
form_rule (rules q) i = subst (λ r. Within (in_rule r) (in_rule q)) (in_one i) (λ m j. j)

form_role : (f : Form) {r : Term} → In r (elim f [ declares r ↦ r ∷ [] | opens x ↦ [] | rules r ↦ [] ]) → In (a_role r) (in_form f)
form_role (declares s) i = subst (λ r. In (a_role r) (a_role s ∷ [])) (in_one i) here
form_role (opens x) i = elim i [ ]
form_role (rules q) i = elim i [ ]

pub declared_mentioned : (fs : List Form) {r : Term} → In r (declared fs) → In (a_role r) (mentions fs)
declared_mentioned fs i = let (f, among, by) = joined_in _ fs i in in_joined in_form among (form_role f by)

pub role_below : (fs : List Form) (r : Term) → In (a_role r) (mentions fs) → role_number (tables fs) r < length (tables fs).roles
role_below fs r i = (mentioned_once (joined roles_in (mentions fs)) r (in_joined roles_in i here)).0

fact_below : (fs : List Form) (p : Term) → In (a_fact p) (mentions fs) → number (tables fs).facts p < length (tables fs).facts
fact_below fs p i = (mentioned_once (joined facts_in (mentions fs)) p (in_joined facts_in i here)).0

module _ (fs : List Ruled) (x : Rule ℕ) (x_in : In x (game fs).rules) where
  pub atom_spoken : {a : Atom ℕ} → In a (joined named (body x)) → Spoken (game fs).names a (mentions (forms_of fs))
  atom_spoken {a} i =
      let t = (game fs).names in
      let (r, among, is) = map_in (numbered t) _ (subst (In x) (rules_numbered t fs) x_in) in
      let (f, f_in, by) = joined_in rules_of (forms_of fs) among in
      let (b, same, within) = rule_spoken t r (subst (λ y. In a (joined named (body y))) is i) in
      (b, same, λ m j. in_joined in_form f_in (form_rule f by m (within m j)))

  pub knower_below : (r p : ℕ) → In (Atom.knows r p) (joined named (body x)) → r < length (game fs).names.roles
  knower_below r p i =
      let (b, same, within) = atom_spoken i in
      let (s, s_in, is) = numbered_knows (game fs).names b same in
      subst (λ n. n < length (game fs).names.roles) is (role_below (forms_of fs) s (within _ s_in))

  pub known_below : (p : ℕ) → In (Atom.fact p) (joined about (joined named (body x))) → p < length (game fs).names.facts
  known_below p i =
      let (a, a_in, by) = joined_in about (joined named (body x)) i in
      let (b, same, within) = atom_spoken a_in in
      let (q, q_in, is) = numbered_about (game fs).names b (subst (λ a. In (Atom.fact p) (about a)) (sym same) by) in
      subst (λ n. n < length (game fs).names.facts) is (fact_below (forms_of fs) q (within _ q_in))
