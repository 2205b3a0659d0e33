pub mod OnCurve
