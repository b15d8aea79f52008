-- What stands in a flow record and in an overload record.
use mathlib.Core.Path.{◌≡◌, refl, ap, ◌∙◌}
use mathlib.Core.List.{List, [], ◌∷◌, ◌++◌}
use Prim.Native.Nat.{ℕ, ◌%◌, ◌^◌, ◌<◌}
use native.Mathlib.Omega.{arith}
use lib.ListN.{length, replicate, get_or-append}
use Rattle.records.specs.Bytes.{byte, field, AreBytes}
use Rattle.records.specs.Records.{bytes, flow_record, overload_record}
use Rattle.records.proofs.Fields.{bytes_low, field_append, field_bytes, bytes_cons, bytes_append, bytes_bytes, bytes_zeros}

module _ (kind from to units mark : ℕ) where
  pub flow_length_lem : length (flow_record kind from to units mark) ≡ 24
  unfolding flow_record bytes
  flow_length_lem = refl

  pub flow_from : byte (flow_record kind from to units mark) 2 ≡ from
  unfolding flow_record
  flow_from = refl

  pub flow_to : byte (flow_record kind from to units mark) 3 ≡ to
  unfolding flow_record
  flow_to = refl

  pub flow_units_lem : units < 256 ^ 4 → field (flow_record kind from to units mark) 4 4 ≡ units
  unfolding flow_record field bytes
  flow_units_lem h = field_bytes 4 units [] h

  pub flow_mark_lem : byte (flow_record kind from to units mark) 8 ≡ mark
  unfolding flow_record bytes
  flow_mark_lem = refl

  pub flow_bytes_lem : kind < 256 → from < 256 → to < 256 → mark < 256 → AreBytes (flow_record kind from to units mark)
  unfolding flow_record
  flow_bytes_lem k f t m =
      bytes_append (33 ∷ kind ∷ from ∷ to ∷ bytes 4 units) (mark ∷ replicate 15 0)
      (bytes_cons 33 (kind ∷ from ∷ to ∷ bytes 4 units) (omega arith)
      (bytes_cons kind (from ∷ to ∷ bytes 4 units) k
      (bytes_cons from (to ∷ bytes 4 units) f (bytes_cons to (bytes 4 units) t (bytes_bytes 4 units)))))
      (bytes_cons mark (replicate 15 0) m (bytes_zeros 15))

module _ (kind size need members : ℕ) where
  pub overload_length : length (overload_record kind size need members) ≡ 24
  unfolding overload_record bytes
  overload_length = refl

  pub overload_kind : byte (overload_record kind size need members) 1 ≡ kind
  unfolding overload_record
  overload_kind = refl

  pub overload_size : byte (overload_record kind size need members) 2 ≡ size
  unfolding overload_record
  overload_size = refl

  -- the set's field takes the eight lowest bytes of a number
  pub overload_low : overload_record kind size need (members % 256 ^ 8) ≡ overload_record kind size need members
  unfolding overload_record
  overload_low = ap (λ (l : List ℕ). 32 ∷ kind ∷ size ∷ 0 ∷ bytes 4 need ++ l ++ replicate 8 0) (bytes_low 8 members)

  pub overload_need : need < 256 ^ 4 → field (overload_record kind size need members) 4 4 ≡ need
  unfolding overload_record field bytes
  overload_need h = field_bytes 4 need [] h

  pub overload_set : members < 256 ^ 8 → field (overload_record kind size need members) 8 8 ≡ members
  unfolding overload_record field bytes
  overload_set h = field_bytes 8 members [] h

  -- the record is read back, whatever follows it
  pub overload_read : (rest : List ℕ) → need < 256 ^ 4 → members < 256 ^ 8
      → (byte (overload_record kind size need members ++ rest) 1 ≡ kind) × (byte (overload_record kind size need members ++ rest) 2 ≡ size)
      × (field (overload_record kind size need members ++ rest) 4 4 ≡ need) × (field (overload_record kind size need members ++ rest) 8 8 ≡ members)
  overload_read rest h g =
      let r = overload_record kind size need members in (
        get_or-append r rest 0 1 (omega (arith, overload_length)) ∙ overload_kind,
        get_or-append r rest 0 2 (omega (arith, overload_length)) ∙ overload_size,
        field_append r rest 4 4 (omega (arith, overload_length)) ∙ overload_need h,
        field_append r rest 8 8 (omega (arith, overload_length)) ∙ overload_set g,
      )
