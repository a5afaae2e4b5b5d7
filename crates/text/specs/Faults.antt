-- The number, layer and place of each fault; want of memory has none.
use Rattle.std.specs.Prelude.{Some, None, Option}
use Rattle.definitions.specs.Refusal as meaning
use Rattle.definitions.specs.Refusal.{text_layer, rules_layer, deal_layer, match_layer}
use Rattle.definitions.specs.Text.{in_text}
use Rattle.text.specs.declared.refusal.Layer.{Layer}
use Rattle.text.specs.declared.refusal.Refusal.{Refusal}
use Rattle.text.specs.declared.fault.TextFault.{TextFault}
use Rattle.text.specs.declared.fault.TextFault.TheVariants.{Memory, TooLong, Odd, Variable, Unopened, Empty, Unclosed, TooDeep}

abbrev pub layer : Layer → meaning.Layer
layer Layer.Text = text_layer
layer Layer.Rules = rules_layer
layer Layer.Deal = deal_layer
layer Layer.Match = match_layer

abbrev pub refusal : Refusal → meaning.Refusal
refusal r = record { number = r.number; layer = layer r.layer; place = r.place }

abbrev pub of_text : TextFault → Option meaning.Refusal
of_text (Memory e) = None
of_text TooLong = Some (in_text 1 32768)
of_text (Odd at) = Some (in_text 2 at)
of_text (Variable at) = Some (in_text 3 at)
of_text (Unopened at) = Some (in_text 4 at)
of_text (Empty at) = Some (in_text 4 at)
of_text (Unclosed at) = Some (in_text 4 at)
of_text (TooDeep at) = Some (in_text 5 at)
