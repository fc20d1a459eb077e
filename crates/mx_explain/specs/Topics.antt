-- What is explained: its number, if it has one, and its name.
use Rattle.std.specs.Prelude.{ℕ, List, Option, None, Some}
use Rattle.mx_outcome.specs.Names.{fault_name_of, usage_name_of}
use Rattle.mx_explain.specs.declared.row.Topic.{Topic}
use Rattle.mx_explain.specs.declared.row.Row.{Row as Seen}
use Rattle.mx_explain.specs.declared.row.Topic.TheVariants.{Source, Object, Stop, Kind, Warning, Status, Inside, Operation, Unperformed, Symbol}

-- a row: its topic, the name that it has of its own, its sentences, its example, and what is right in its place
pub record Row : Type 0 where
  pub topic : Topic
  pub name : List ℕ
  pub says : List ℕ
  pub example : List ℕ
  pub mended : List ℕ

abbrev pub row : Topic → List ℕ → List ℕ → List ℕ → List ℕ → Row
row topic name says example mended = record { topic = topic; name = name; says = says; example = example; mended = mended }

-- a row of the code
abbrev pub seen : Seen → Row
seen r = row r.topic r.name.now r.says.now r.example.now r.mended.now

abbrev pub number_of : Topic → Option ℕ
number_of (Source number) = Some number
number_of (Object number) = Some number
number_of (Stop number) = Some number
number_of (Kind number) = Some number
number_of (Warning number) = Some number
number_of (Status number) = Some number
number_of (Inside number) = Some number
number_of Operation = None
number_of Unperformed = None
number_of Symbol = None

-- the name of a topic, where a row has one of its own
abbrev pub topic_name : Topic → List ℕ → List ℕ
topic_name (Source number) given = fault_name_of number
topic_name (Object number) given = fault_name_of number
topic_name (Stop number) given = fault_name_of number
topic_name (Kind number) given = usage_name_of number
topic_name (Warning number) given = given
topic_name (Status number) given = given
topic_name (Inside number) given = fault_name_of number
topic_name Operation given = given
topic_name Unperformed given = given
topic_name Symbol given = given

abbrev pub name_of : Row → List ℕ
name_of row = topic_name row.topic row.name
