-- `order::listed_keys` meets its contract: the keys of the identities passed stand at the front, each once.
use mathlib.Core.Path.{◌≡◌, ap}
use mathlib.Core.List.{map}
use native.Mathlib.Omega.{arith}
use Prim.Native.Nat.{◌≤◌}
use lib.ListN.{length, replicate, length-set, length-map, length-take}
use Rattle.rules.specs.Number.{count}
use Rattle.rules.specs.Named.{max_numbers}
use Rattle.order.specs.Lists.{identity_of}
use Rattle.order.proofs.ListLaws.{nobody, keys-again, keys-new, rest-blank}
use borrow.Author.Rules.{rules}
use Rattle.order.proofs.spelling.listed_keys.Goals.{then-not-member, else-not-member}
use Rattle.order.proofs.spelling.listed_keys.Goals as goal

pub loop-identity-preserved : goal.loop-identity-preserved
loop-identity-preserved g c =
    let l = c.loop-identity in
    let n = c.args.listed.now in
    let items = c.in_use-identity-items.result.now in
    let x = c.identity_key-x in
    let inside = c.loop-identity-test.true in
    let long : length n.identity ≡ 10 = search rules in
    let few : length items ≤ 10 = omega (
      arith,
      length-map items identity_of,
      ap length c.in_use-identity-items.ensures,
      length-take (count n.code) (map identity_of n.identity),
      length-map n.identity identity_of,
    ) in
    elim c.if-not-member.branch [
      | then-not-member w ↦
          let t = keys-new c.args.home items l.key nobody x.result l.identity-index l.count x.ensures inside l.invariant.2
          (omega (arith, l.invariant.1)) c.member.result c.member.ensures w.if-not-member.true in
          rw (w.key-is, w.count-is) (omega arith, simp length-set l.invariant.1, t, rest-blank l.key (replicate max_numbers 0) l.count _ l.invariant.3)
      | else-not-member w ↦
          let t = keys-again c.args.home items l.key nobody x.result l.identity-index l.count x.ensures inside l.invariant.2
          c.member.result c.member.ensures w.if-not-member.false in
          rw (w.key-is, w.count-is) (omega arith, l.invariant.1, t, l.invariant.3)
    ]
