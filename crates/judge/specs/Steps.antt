-- What the code's steps are; serves the proofs: an accepted file's network, where its tables stand, and what the functions below Judge are lent.
use Rattle.std.specs.Prelude.{◌≡◌, List, [], map, ℕ, ◌+◌, ◌≤◌, ◌<◌, length, get_or}
use Rattle.reading.specs.declared.Mark.{Mark}
use Rattle.reading.specs.Network.{Network, filters}
use Rattle.reading.specs.File.{Parsed, refused, accepted, parse}
use Rattle.reading.specs.Arrays.{rules_in, place_in, part_at}
use Rattle.classes.specs.Classes.{care_at, value_at}
use Rattle.classes.specs.Given.{AllWellFormed}
use Rattle.least.specs.declared.Patterns.{Patterns}
use Rattle.judge.specs.Forwarding.{nodes_of}
use Rattle.judge.specs.Judging.{classes_of}

abbrev pub network_in : Parsed → Network
network_in (refused r) = record { width = 0; tables = [] }
network_in (accepted net) = net

-- The network of an accepted file.
unfoldable pub network_of : List ℕ → Network
network_of file = network_in (parse file)

-- The n nodes' tables stand in the file at these marks.
pub record Stands (file : List ℕ) (marks : List Mark) (n w : ℕ) : Type 0 where
  pub width : (network_of file).width ≡ w
  pub nodes : nodes_of (network_of file) ≡ n
  pub few : n ≤ 64
  pub from : (v : ℕ) → v < n → place_in marks v + 2 ≤ place_in marks (v + 1)
  pub upto : (v : ℕ) → v < n → place_in marks (v + 1) ≤ length file
  pub table : (v : ℕ) → v < n → rules_in w (part_at file marks v) ≡ get_or (network_of file).tables v []

-- The network's class list stands in the lists of care masks and values.
pub record Listed (net : Network) (listed : Patterns) : Type 0 where
  pub formed : AllWellFormed net.width (filters net)
  pub cares : listed.cares.now ≡ map care_at (classes_of net)
  pub values : listed.values.now ≡ map value_at (classes_of net)
