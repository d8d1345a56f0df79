-- The code's tags, as numbers, and how long the body of each is: `size_of` of Format.antt, for the tags that there are.
use Rattle.std.specs.Prelude.{ℕ}
use Rattle.jobs.specs.declared.Tag.{Tag}
use Rattle.jobs.specs.declared.Tag.TheVariants.{Curve, Bounds, Start, Epsilon, Budget, Limit}

abbrev pub tag_of : Tag → ℕ
tag_of Curve = 1
tag_of Bounds = 2
tag_of Start = 3
tag_of Epsilon = 4
tag_of Budget = 5
tag_of Limit = 6

abbrev pub length_of : Tag → ℕ
length_of Curve = 1
length_of Bounds = 16
length_of Start = 8
length_of Epsilon = 8
length_of Budget = 2
length_of Limit = 2
