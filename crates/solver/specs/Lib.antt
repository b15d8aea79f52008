-- What the crate `solver` promises (Sound), and the model of it, which its contracts cite. The definitions of
-- need, handover, flow and crew are those of `flow_math`.
pub mod Sound
pub mod model
