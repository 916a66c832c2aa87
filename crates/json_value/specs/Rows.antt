-- The types of what a value holds, as the logic holds them, for the clauses on what is lent to be written.
use Rattle.std.specs.Borrow.{RattleType}
use Rattle.std.specs.contracts.alloc.Global as global
use Rattle.std.specs.contracts.hash.BuildHasherDefault as build
use Rattle.std.specs.contracts.hash.FoldHasher as fold
use Rattle.std.specs.contracts.impls.GlobalAllocator.TheImpl.{ghosts}
use Rattle.std.specs.contracts.impls.StringEq.TheImpl as full_eq
use Rattle.std.specs.contracts.impls.StringHash.TheImpl as hash
use Rattle.std.specs.contracts.impls.StringPartialEq.TheImpl as eq
use Rattle.std.specs.contracts.prelude.BuildHasherDefaultBuildHasher.TheImpl as builder
use Rattle.std.specs.contracts.prelude.FoldHasherHasher.TheImpl as hasher
use Rattle.std.specs.contracts.string.String as text
use Rattle.std.specs.contracts.vec.Vec as vec
use Rattle.halfbrown.specs.contracts.key_hasher.AnyKeyHasher.TheImpl as key_hasher
use Rattle.halfbrown.specs.contracts.limit.AtMost as at_most
use Rattle.halfbrown.specs.contracts.limit.AtMostLimit.TheImpl as limit
use Rattle.halfbrown.specs.contracts.map.LimitedHashMap as map
use Rattle.std.below.core.specs.contracts.clone.Clone+copy.TheImpl as copied
use denote.Param.{number}
use Rattle.json_value.specs.contracts.value.Value.{the_row}

abbrev pub list_row : RattleType
list_row = vec.the_row the_row global.the_row ghosts

abbrev pub name_row : RattleType
name_row = text.the_row global.the_row ghosts

abbrev pub builder_row : RattleType
builder_row = build.the_row fold.the_row

abbrev pub object_row : RattleType
object_row =
    let equal = eq.ghosts global.the_row ghosts eq.no_dict eq.no_dict in
    let hashed = hash.ghosts global.the_row ghosts hash.no_dict hash.no_dict in
    let hashes = key_hasher.ghosts name_row builder_row fold.the_row hashed key_hasher.no_dict (full_eq.ghosts global.the_row ghosts full_eq.no_dict full_eq.no_dict) key_hasher.no_dict equal
    key_hasher.no_dict (builder.ghosts fold.the_row hasher.ghosts builder.no_dict (copied.ghosts fold.the_row) builder.no_dict) key_hasher.no_dict hasher.ghosts key_hasher.no_dict key_hasher.no_dict in
    map.the_row name_row the_row builder_row (at_most.the_row (number 32)) fold.the_row equal hashed hashes (limit.ghosts (number 32))
