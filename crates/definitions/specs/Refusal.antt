-- What a refusal says, and what a judgement of some input comes to.
--     Layer      the layer that refuses
--     Refusal    its number, layer and place
--     Verdict X  accepted, with what was found, or refused
--     AtVerdict  a fact of what was found, or of the refusal
use Rattle.std.specs.Prelude.{ℕ}

pub data Layer : Type 0 where
  text_layer : Layer
  rules_layer : Layer
  deal_layer : Layer
  match_layer : Layer

pub record Refusal : Type 0 where
  pub number : ℕ
  pub layer : Layer
  pub place : ℕ

pub data Verdict (X : Type 0) : Type 0 where
  accepted : X → Verdict X
  refused : Refusal → Verdict X

abbrev pub AtVerdict : {X : Type 0} → Verdict X → (X → Type 0) → (Refusal → Type 0) → Type 0
AtVerdict (accepted x) P Q = P x
AtVerdict (refused r) P Q = Q r
