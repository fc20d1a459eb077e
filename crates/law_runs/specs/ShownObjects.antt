-- Objects that are listed: what the laws of listings speak of.
use Rattle.std.specs.Prelude.{ℕ, ◌≡◌, ◌≢◌, ◌≤◌, List, Option, Ok, length}
use Rattle.std.specs.List.{concat}
use Rattle.mx_word.specs.Ranges.{AreBytes}
use Rattle.mx_word.specs.declared.symbols.Symbol.{Symbol}
use Rattle.mx_host.specs.HostModel.{HostModel, contents}
use Rattle.mx_mmo.specs.Replies.{limit}
use Rattle.mx_mmo.specs.Whole.{object_of}
use Rattle.mx_mmo.specs.declared.items.Object.{Object}
use Rattle.mx_plan.specs.Wild.{ends}
use Rattle.mx_run.specs.WildRuns.{MachineKind, window_machine}
use Rattle.mx_stab.specs.Grammar.{IsTrie}
use Rattle.mx_type.specs.Listing.{IsListing}
use Rattle.mx_words.specs.declared.order.Command.TheVariants.{Show}
use Rattle.mx_words.specs.declared.order.Order.{Order}
use Rattle.mx_begin.specs.Arguments.{Word, word_at}
use Rattle.mx_files.specs.Answers.{Answer}
use Rattle.mx_files.specs.Source.{object_pieces}
use Rattle.mx_files.specs.Typed.{typed}
use Rattle.mx_top.specs.Product.{product}
use Rattle.mx_outcome.specs.declared.outcome.Outcome.{Outcome}
use Rattle.mx_outcome.specs.declared.outcome.Outcome.TheVariants.{Done, OutOfMemory}
use Rattle.law_runs.specs.Called.{IsCalled, NoCallFails}
use Rattle.law_runs.specs.Complete.{IsOrdered, IsThere, with_output}
use Rattle.law_runs.specs.Detour.{answer_unscheduled}

-- what is written for bytes
abbrev pub text_for : List ℕ → List ℕ
text_for bytes = concat (typed bytes).0

-- bytes that are listed whole
abbrev pub IsWhole : List ℕ → Type 0
IsWhole bytes = (typed bytes).1 ≡ Done 0

-- bytes of an object, with the symbols of its trie
pub record ReadObject : Type 0 where
  pub bytes : List ℕ
  pub object : Object
  pub symbols : List Symbol
  pub is : object_of bytes ≡ Ok object
  pub trie : IsTrie object.tail.trie symbols

-- what is written for bytes is the listing of an object
abbrev pub ListsObject : List ℕ → Object → Type 0
ListsObject bytes object = IsListing (text_for bytes) object.items object.tail.trie

-- bytes of an object, which are listed whole
pub record ListedObject : Type 0 where
  pub bytes : List ℕ
  pub object : Object
  pub each : AreBytes bytes
  pub is : object_of bytes ≡ Ok object
  pub whole : IsWhole bytes

-- two of them have the same items, and the same trie
abbrev pub HaveSame : ListedObject → ListedObject → Type 0
HaveSame a b = (a.object.items ≡ b.object.items) × (a.object.tail.trie ≡ b.object.tail.trie)

-- bytes, not too many, that are not listed whole
pub record IsFaulty (bytes : List ℕ) : Type 0 where
  pub each : AreBytes bytes
  pub short : length bytes ≤ limit
  pub faulty : (typed bytes).1 ≢ Done 0

-- the words order to list an object that is there, and no call fails
pub record ShownObject : Type 0 where
  pub kind : MachineKind
  pub words : List Word
  pub order : Order
  pub bytes : List ℕ
  pub host : HostModel
  pub ordered : IsOrdered words order Show
  pub there : IsThere (word_at words order.file) object_pieces bytes host
  pub none : NoCallFails kind words host

abbrev pub shown_answer : ShownObject → Answer
shown_answer p = answer_unscheduled (product p.kind p.words p.host)

-- what the listing of bytes comes to over a host
abbrev pub listing_answer : List ℕ → HostModel → Answer
listing_answer bytes m = ends (typed bytes).1 (with_output m (text_for bytes))

-- such a call of the program, which is answered
pub record CalledListing : Type 0 where
  pub words : List Word
  pub order : Order
  pub bytes : List ℕ
  pub old : Option HostModel
  pub new : Option HostModel
  pub outcome : Outcome
  pub called : IsCalled words old new outcome
  pub ordered : IsOrdered words order Show
  pub there : IsThere (word_at words order.file) object_pieces bytes (contents old)
  pub none : NoCallFails window_machine words (contents old)
  pub enough : outcome ≢ OutOfMemory
