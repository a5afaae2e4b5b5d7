-- What the values of this crate stand for in the definitions.
use Rattle.definitions.specs.Text as text
use Rattle.text.specs.declared.sort.Sort.{Sort}
use Rattle.text.specs.declared.sort.Sort.TheVariants.{Word, Divider, Open, Close, Comment, Variable, Odd}
use Rattle.text.specs.declared.token.Bare.{Bare}
use Rattle.text.specs.declared.token.Token.{Token}

abbrev pub sorted : Sort → text.Sort
sorted Word = text.letter
sorted Divider = text.Sort.divider
sorted Open = text.Sort.opening
sorted Close = text.Sort.closing
sorted Comment = text.semicolon
sorted Variable = text.question
sorted Odd = text.odd

-- the word or bracket that a token is
abbrev pub token : Token → text.Token
token (Token.Open at) = text.Token.opening at
token Token.Close = text.Token.closing
token (Token.Word at w) = text.Token.word at w.now

-- a token without its place
abbrev pub bare : Token → Bare
bare (Token.Open at) = Bare.Open
bare Token.Close = Bare.Close
bare (Token.Word at w) = Bare.Word w
