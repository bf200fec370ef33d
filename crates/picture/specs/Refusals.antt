-- What a call answers: done, or refused with a number and the values that go with it.
use Rattle.std.specs.Prelude.{ℕ, List, [], ◌∷◌, Ok, Err, Result, codes}
use Rattle.picture.specs.declared.fault.Cause.{Cause}
use Rattle.picture.specs.declared.fault.Cause.TheVariants.{Missing, Unread, Above, NoPixel}
use Rattle.picture.specs.declared.fault.Fault.{Fault}
use Rattle.picture.specs.declared.fault.Refusal.{Refusal}
use Rattle.picture.specs.declared.fault.Refusal.TheVariants.{WrongMark, HeaderEnds, HeaderByte, HeaderNumber, OutsideLimits, DoesNotFit, NotInside, BufferTooShort, Hole, OtherWriter, NoTile, NoRows, RowsLeft}

pub data Outcome : Type 0 where
  done : Outcome
  refused : ℕ → List ℕ → Outcome

abbrev pub cause_number : Cause → ℕ
cause_number Missing = 1
cause_number Unread = 2
cause_number Above = 3
cause_number NoPixel = 4

-- what a cause is called
abbrev pub cause_words : Cause → List ℕ
cause_words Missing = codes "missing byte"
cause_words Unread = codes "unread byte"
cause_words Above = codes "sample above maxval"
cause_words NoPixel = codes "no pixel"

-- cause, source number, column and row
abbrev pub fault_values : Fault → List ℕ
fault_values f = cause_number f.cause ∷ (f.source ∷ (f.column ∷ (f.row ∷ [])))

abbrev pub number_of : Refusal → ℕ
number_of WrongMark = 1
number_of HeaderEnds = 2
number_of HeaderByte = 3
number_of HeaderNumber = 4
number_of OutsideLimits = 5
number_of DoesNotFit = 7
number_of NotInside = 10
number_of BufferTooShort = 11
number_of (Hole f) = 12
number_of OtherWriter = 13
number_of NoTile = 14
number_of NoRows = 15
number_of RowsLeft = 16

-- only a hole has values: its fault's
abbrev pub values_of : Refusal → List ℕ
values_of WrongMark = []
values_of HeaderEnds = []
values_of HeaderByte = []
values_of HeaderNumber = []
values_of OutsideLimits = []
values_of DoesNotFit = []
values_of NotInside = []
values_of BufferTooShort = []
values_of (Hole f) = fault_values f
values_of OtherWriter = []
values_of NoTile = []
values_of NoRows = []
values_of RowsLeft = []

abbrev pub told : Refusal → Outcome
told e = refused (number_of e) (values_of e)

abbrev pub outcome : Result Unit Refusal → Outcome
outcome (Ok _) = done
outcome (Err e) = told e
