-- The checks by which calls on a book are denied.
use Rattle.std.specs.Prelude.{ℕ, Bool, cond, List, Some, None, Option, codes}
use Rattle.netfile.specs.Faults.{number_of, layer_of}
use Rattle.netfile.specs.declared.faults.Layer.{Layer as FileLayer}
use Rattle.netfile.specs.declared.faults.Layer.TheVariants.{File, Record, Network as NetworkPart}
use Rattle.netfile.specs.declared.faults.NetworkFault.{NetworkFault}
use Rattle.book.specs.declared.fault.Layer.{Layer}
use Rattle.book.specs.declared.fault.Layer.TheVariants.{OfFile, OfRecord, OfNetwork, OfBook}
use Rattle.book.specs.declared.fault.Fault.{Fault}
use Rattle.book.specs.declared.fault.Fault.TheVariants.{AlreadyOpen, Network, NoSuchSite, SameSite, LevelOutOfRange, NumbersSpent, TooFewRoutes, NoSuchBooking, ShortList}

-- the published numbers
abbrev pub fault_number : Fault → ℕ
fault_number AlreadyOpen = 1
fault_number (Network f) = number_of f
fault_number (NoSuchSite j) = 10
fault_number SameSite = 11
fault_number LevelOutOfRange = 12
fault_number NumbersSpent = 13
fault_number (TooFewRoutes f) = 14
fault_number NoSuchBooking = 15
fault_number ShortList = 16

abbrev pub layer_above : FileLayer → Layer
layer_above File = OfFile
layer_above Record = OfRecord
layer_above NetworkPart = OfNetwork

-- the word for a layer
abbrev pub layer_word : Layer → List ℕ
layer_word OfFile = codes "file"
layer_word OfRecord = codes "record"
layer_word OfNetwork = codes "network"
layer_word OfBook = codes "book"

abbrev pub fault_layer : Fault → Layer
fault_layer AlreadyOpen = OfBook
fault_layer (Network f) = layer_above (layer_of f)
fault_layer (NoSuchSite j) = OfBook
fault_layer SameSite = OfBook
fault_layer LevelOutOfRange = OfBook
fault_layer NumbersSpent = OfBook
fault_layer (TooFewRoutes f) = OfBook
fault_layer NoSuchBooking = OfBook
fault_layer ShortList = OfBook

-- the check that applies, with what it determines: all but the side that comes along where there are too few routes
pub data Ground : Type 0 where
  already_open : Ground
  file_fault : NetworkFault → Ground
  no_site : ℕ → Ground
  same_site : Ground
  level_out : Ground
  numbers_spent : Ground
  too_few : Ground
  no_booking : Ground
  list_short : Ground

abbrev pub ground_of : Fault → Ground
ground_of AlreadyOpen = already_open
ground_of (Network f) = file_fault f
ground_of (NoSuchSite j) = no_site j
ground_of SameSite = same_site
ground_of LevelOutOfRange = level_out
ground_of NumbersSpent = numbers_spent
ground_of (TooFewRoutes f) = too_few
ground_of NoSuchBooking = no_booking
ground_of ShortList = list_short

-- the ground g where the test holds, else what the checks after it give
abbrev pub check : Bool → Ground → Option Ground → Option Ground
check t g rest = cond t (Some g) rest

-- a fault of the file
abbrev pub file_check : Option NetworkFault → Option Ground
file_check (Some f) = Some (file_fault f)
file_check None = None
