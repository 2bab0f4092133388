-- The number and the place of a fault of a linear file.
use Rattle.std.specs.Prelude.{ℕ}
use Rattle.words.specs.declared.header.HeaderFault.{HeaderFault}
use Rattle.words.specs.declared.header.HeaderFault.TheVariants as header
use Rattle.linear.specs.declared.fault.Group.{Group}
use Rattle.linear.specs.declared.fault.Group.TheVariants.{Head, Actions, Delays}
use Rattle.linear.specs.declared.fault.Place.{Place}
use Rattle.linear.specs.declared.fault.LinearFault.{LinearFault}
use Rattle.linear.specs.declared.fault.LinearFault.TheVariants.{Version, Length, Limit, Misnamed, Product}

abbrev pub number_of : LinearFault → ℕ
number_of Version = 1
number_of (Length p) = 2
number_of (Limit p) = 3
number_of (Misnamed p) = 18
number_of (Product p) = 8

abbrev pub group_number : Group → ℕ
group_number Head = 0
group_number Actions = 1
group_number Delays = 2

abbrev pub at : Group → ℕ → Place
at g k = record { group = g; summand = k }

abbrev pub head : Place
head = at Head 0

abbrev pub place_of : LinearFault → Place
place_of Version = head
place_of (Length p) = p
place_of (Limit p) = p
place_of (Misnamed p) = p
place_of (Product p) = p

abbrev pub group_of : LinearFault → ℕ
group_of x = group_number (place_of x).group

abbrev pub summand_of : LinearFault → ℕ
summand_of x = (place_of x).summand

abbrev pub linear_fault : HeaderFault → LinearFault
linear_fault header.Version = Version
linear_fault header.Length = Length head
