use Rattle.std.proofs.Common.{false, map, vec_items, sym, ◌∙◌}
use Rattle.definitions.specs.Writing.{spelt}
use Rattle.definitions.proofs.Reread.{reread}
use Rattle.text.specs.View.{token}
use Rattle.text.proofs.Spelling.{taken_back, all_added}
use Rattle.text.proofs.output.write.Goals as goal

pub returns-then-is_err : goal.returns-then-is_err
returns-then-is_err c = record {
  value = taken_back c.put_all-answer.result (vec_items c.args.out.now) (vec_items c.put_all-answer.new.out) (vec_items c.truncate.new.self) (spelt false (map token c.args.tokens.now)) c.len-len.result c.put_all-answer.ensures (sym c.if-is_err.ensures.value) (sym c.args.out.now.ok.0 ∙ sym c.len-len.ensures) c.truncate.ensures.items;
  law = reread;
}

pub returns-else-is_err : goal.returns-else-is_err
returns-else-is_err c = record {
  value = all_added c.put_all-answer.result (vec_items c.args.out.now) (vec_items c.put_all-answer.new.out) (spelt false (map token c.args.tokens.now)) c.put_all-answer.ensures (sym c.if-is_err.ensures.value);
  law = reread;
}
