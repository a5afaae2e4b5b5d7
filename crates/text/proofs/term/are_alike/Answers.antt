use Rattle.std.proofs.Common.{rules, tests, ◌∙◌}
use Rattle.std.proofs.lemmas.Iterator.{YieldsList-from_slice, YieldsList-from_zip}
use Rattle.std.proofs.lemmas.Bool.{ne_eqb}
use Rattle.std.proofs.lemmas.Iterator.Search.{all_from_yields_List}
use Rattle.text.specs.Spelt.{alike}
use Rattle.text.specs.View.{token}
use Rattle.text.proofs.Alike.{zipped, of_two_lengths}
use Rattle.text.proofs.term.are_alike.Goals as goal

pub returns-then-ts-us : goal.returns-then-ts-us
returns-then-ts-us c =
    let pairs = YieldsList-from_zip (YieldsList-from_slice c.args.ts.now cc) (YieldsList-from_slice c.args.us.now cc) in
    all_from_yields_List (λ p. alike (token p.0) (token p.1)) c.all.new.self _ c.all.result c.all.ensures.ran pairs (λ x b q k. search (rules, tests))
    ∙ zipped _ _ c.if-ts-us.true

pub returns-else-ts-us : goal.returns-else-ts-us
returns-else-ts-us c = ne_eqb _ _ c.if-ts-us.false ∙ of_two_lengths _ _ c.if-ts-us.false
