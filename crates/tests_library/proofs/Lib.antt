pub mod SegmentFacts
