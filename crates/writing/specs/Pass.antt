-- The two walks over a record.
-- Assumes nothing.

-- one judges and counts, and lays nothing; the other lays the bits, and judges nothing
pub data Pass : Type 0 where
  Judge : Pass
  Lay : Pass
